use Rattle.kb_tenants.proofs.Ordered.{ordered_hosted}
use Rattle.kb_tenants.proofs.promises.kept_commits_are_ordered.Goals as goal

pub returns : goal.returns
returns g c = ordered_hosted g.L.PartitionLog.log g.S.Store.disk c.args.tenants.now c.requires
