use Rattle.kb_folder.specs.Told.{calls_of}
use Rattle.kb_folder.proofs.Synced.{no_minds}
use Rattle.kb_folder.proofs.host_folder.HostFolder.to_read.Goals as goal

pub invariant_of-result : goal.invariant_of-result
invariant_of-result g c = no_minds c.in_ok-at.field-0.changed (calls_of c.new.result) c.in_ok-at.ensures
