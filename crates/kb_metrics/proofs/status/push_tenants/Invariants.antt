use Rattle.std.proofs.Common.{◌≡◌, ◌++◌, map}
use Rattle.std.specs.List.{flat_map, range_with_len}
use Rattle.kb_metrics.specs.Status.{row_at}
use Rattle.kb_metrics.specs.Rows.{tenant_row}
use Rattle.kb_metrics.proofs.status.push_tenants.Given as goal

-- the rows so far were written
abbrev pub invariant-loop-place : goal.invariant-loop-place
invariant-loop-place l = l.out.items ≡ l.fn.out.items ++ flat_map (row_at (map tenant_row l.tenants) l.rates) (range_with_len 0 l.place)
