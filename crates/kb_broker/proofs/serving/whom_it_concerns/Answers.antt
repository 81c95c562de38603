use Rattle.kb_broker.specs.Hosts.{tenants_in}
use Rattle.kb_broker.proofs.Counted.{turn-none}
use Rattle.kb_broker.proofs.serving.whom_it_concerns.Goals as goal

pub returns-then-is_empty-clause-turn : goal.returns-then-is_empty-clause-turn
returns-then-is_empty-clause-turn g c = turn-none c.args.tenant (tenants_in g.L.PartitionLog.log g.S.Store.disk c.args.tenants.now)

pub returns-in-Ok-clause-turn : goal.returns-in-Ok-clause-turn
returns-in-Ok-clause-turn g c = turn-none c.args.tenant (tenants_in g.L.PartitionLog.log g.S.Store.disk c.args.tenants.now)
