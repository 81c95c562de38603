use Rattle.std.proofs.Common.{◌≡◌, take, map}
use Rattle.kb_metrics.specs.Gauges.{group_of}
use Rattle.kb_metrics.specs.Rows.{group_row}
use Rattle.kb_metrics.proofs.gather.group_rows.Given as goal

-- the rows of the groups so far
abbrev pub invariant-loop-entry : goal.invariant-loop-entry
invariant-loop-entry l = map group_row l.rows.items ≡ map group_of (take l.entry-index l.groups)
