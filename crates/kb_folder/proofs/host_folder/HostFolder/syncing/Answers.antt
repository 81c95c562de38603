use Rattle.kb_folder.specs.Told.{calls_of}
use Rattle.kb_folder.proofs.Synced.{only_last}
use Rattle.kb_folder.proofs.host_folder.HostFolder.syncing.Goals as goal

pub returns-clause-lasts : goal.returns-clause-lasts
returns-clause-lasts g c = λ honest. only_last (calls_of c.sync_found.new.history) (c.in_ok-sync_found.ensures.last honest)
