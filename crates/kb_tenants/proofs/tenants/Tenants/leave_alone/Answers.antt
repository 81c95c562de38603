use Rattle.kb_tenants.proofs.Added.{kept_leaving}
use Rattle.kb_tenants.proofs.tenants.Tenants.leave_alone.Goals as goal

pub returns-clause-invariant : goal.returns-clause-invariant
returns-clause-invariant g c = kept_leaving g.L.PartitionLog.log g.S.Store.disk c.args.self.now c.args.strays c.requires.apart c.requires.settled c.requires.invariant
