use Rattle.std.proofs.Common.{map}
use Rattle.kb_metrics.specs.Rows.{tenant_row}
use Rattle.kb_metrics.specs.Status.{row_at}
use Rattle.kb_metrics.proofs.Steps.{number_more}
use Rattle.kb_metrics.proofs.status.push_tenants.Goals as goal

pub loop-place-preserved : goal.loop-place-preserved
loop-place-preserved c =
    number_more (row_at (map tenant_row c.args.tenants.now) c.args.rates.now) c.args.out.now.items c.loop-place.out.items
    c.push_row.new.out.items c.loop-place.place c.loop-place.invariant c.in_ok-push_row.ensures
