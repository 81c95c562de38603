use Rattle.std.proofs.Common.{◌∙◌, ◌++◌, sym, ap}
use Rattle.kb_metrics.specs.View.{observed}
use Rattle.kbroker.specs.Pages.{page_in}
use Rattle.kbroker.proofs.Told.{on_ok}
use Rattle.kbroker.proofs.shown.push_page.Goals as goal

pub returns-in-Metrics : goal.returns-in-Metrics
returns-in-Metrics g c =
    on_ok _ _
    (λ told files.
    told files ∙ ap (λ f. c.args.out.now.items ++ page_in f (observed g.L.PartitionLog.log files c.args.tenant.now)) (sym c.in-Metrics.is))
    c.push_partitions.result c.push_partitions.ensures

pub returns-in-Status : goal.returns-in-Status
returns-in-Status g c =
    on_ok _ _
    (λ told files.
    told files ∙ ap (λ f. c.args.out.now.items ++ page_in f (observed g.L.PartitionLog.log files c.args.tenant.now)) (sym c.in-Status.is))
    c.push_tenant_status.result c.push_tenant_status.ensures
