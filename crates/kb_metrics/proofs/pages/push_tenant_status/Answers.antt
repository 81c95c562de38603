use Rattle.std.proofs.Common.{◌∙◌, ◌++◌, map, ap}
use Rattle.kb_metrics.specs.Gauges.{shown_tenant}
use Rattle.kb_metrics.specs.Rows.{partition_row}
use Rattle.kb_metrics.specs.Status.{tenant_page}
use Rattle.kb_metrics.specs.View.{observed}
use Rattle.kb_metrics.proofs.Steps.{on_ok}
use Rattle.kb_metrics.proofs.pages.push_tenant_status.Goals as goal

pub returns : goal.returns
returns g c =
    let out = c.args.out.now.items in
    on_ok c.push_tenant_page.result (λ h files.
    h ∙ ap (λ t. out ++ tenant_page t (map partition_row c.deref.result.now)) (c.in_ok-row.ensures files)
    ∙ ap (λ ps. out ++ tenant_page (shown_tenant (observed g.L.PartitionLog.log files c.args.tenant.now)) ps)
    (ap (map partition_row) c.deref.ensures.value ∙ c.in_ok-partitions.ensures files))
    c.push_tenant_page.ensures
