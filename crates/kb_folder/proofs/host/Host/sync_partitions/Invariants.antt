use Rattle.kb_folder.specs.Lasting.{Syncs}
use Rattle.kb_folder.specs.Told.{calls_of}
use Rattle.kb_folder.proofs.host.Host.sync_partitions.Given as goal

-- files were synced alone
abbrev pub invariant-loop : goal.invariant-loop
invariant-loop g l = Syncs l.fn.self.changed (calls_of l.fn.history) l.self.changed (calls_of l.history)
