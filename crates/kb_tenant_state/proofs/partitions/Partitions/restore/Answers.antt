use Rattle.kb_tenant_state.proofs.Restored.{restored}
use Rattle.kb_tenant_state.proofs.partitions.Partitions.restore.Goals as goal

pub returns-clause-restored : goal.returns-clause-restored
returns-clause-restored g c =
    restored g.L.PartitionLog.log c.args.instance c.args.self.now.topics.entries c.insert.new.self.entries c.args.partitions
    c.in_ok-insert.ensures.entries c.requires.new c.in_ok-insert.ensures.ordered c.in_ok-insert.ensures.updates.0
