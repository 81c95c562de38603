use Rattle.std.proofs.Common.{◌≡◌, take, map}
use Rattle.kb_store.specs.Disk.{Files}
use Rattle.kb_metrics.specs.Gauges.{shown_tenant}
use Rattle.kb_metrics.specs.Rows.{tenant_row}
use Rattle.kb_metrics.specs.View.{observed}
use Rattle.kb_metrics.proofs.gather.tenant_rows.Given as goal

-- the rows of the tenants so far
abbrev pub invariant-loop-tenant : goal.invariant-loop-tenant
invariant-loop-tenant g l = (files : Files)
    → map tenant_row l.rows.items ≡ map shown_tenant (map (observed g.L.PartitionLog.log files) (take l.tenant-index l.tenants))
