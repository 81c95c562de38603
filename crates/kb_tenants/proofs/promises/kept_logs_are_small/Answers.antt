use Rattle.kb_tenants.proofs.Small.{small_hosted}
use Rattle.kb_tenants.proofs.promises.kept_logs_are_small.Goals as goal

pub returns : goal.returns
returns g c = small_hosted g.L.PartitionLog.log g.met.L.PartitionLog.lawful g.S.Store.disk c.args.tenants.now c.requires
