use Rattle.std.proofs.Common.{◌∙◌, ◌<◌, [], length, ap, arith}
use Rattle.kb_metrics.specs.Gauges.{shown_tenant}
use Rattle.kb_metrics.specs.Rows.{tenant_row}
use Rattle.kb_metrics.specs.View.{observed}
use Rattle.kb_metrics.proofs.Steps.{row_of_element}
use Rattle.kb_metrics.proofs.gather.tenant_rows.Goals as goal

pub loop-tenant-preserved : goal.loop-tenant-preserved
loop-tenant-preserved g c files =
    let tenants = c.args.tenants.now in
    let lt : c.loop-tenant.tenant-index < length tenants = omega (arith, c.loop-tenant-test.true) in
    row_of_element tenant_row shown_tenant (observed g.L.PartitionLog.log files) [] c.loop-tenant.rows.items c.push.new.self.items tenants
    c.loop-tenant.tenant-index c.tenant-item.result _ lt (c.loop-tenant.invariant files) c.in_ok-push.ensures.items
    (c.in_ok-tenant_row.ensures files ∙ ap (λ t. shown_tenant (observed g.L.PartitionLog.log files t)) c.tenant-item.is)
