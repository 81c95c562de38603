use Rattle.std.proofs.Common.{map}
use Rattle.kb_metrics.specs.Gauges.{tenants_text}
use Rattle.kb_metrics.specs.Server.{process_text, server_text}
use Rattle.kb_metrics.specs.View.{observed}
use Rattle.kbroker.proofs.Told.{behind_each_other, on_ok}
use Rattle.kbroker.proofs.shown.push_all.Goals as goal

pub returns : goal.returns
returns g c =
    on_ok _ _
    (λ told files.
    behind_each_other c.args.out.now.items (tenants_text (map (observed g.L.PartitionLog.log files) c.args.tenants.now))
    (server_text c.args.server.now) (process_text c.args.process.now) c.push_tenants.new.out.items c.push_server.new.out.items
    c.push_process.new.out.items (c.in_ok-push_tenants.ensures files) c.in_ok-push_server.ensures told)
    c.push_process.result c.push_process.ensures
