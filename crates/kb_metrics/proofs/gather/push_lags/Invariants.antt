use Rattle.std.proofs.Common.{◌≡◌, ◌++◌, take, map}
use Rattle.kb_metrics.specs.Rows.{lag_row}
use Rattle.kb_metrics.specs.Slots.{lag_row_among, slot_of}
use Rattle.kb_metrics.proofs.gather.push_lags.Given as goal

-- the rows of the groups so far
abbrev pub invariant-loop-place : goal.invariant-loop-place
invariant-loop-place l =
    map lag_row l.rows.items
    ≡ map lag_row l.fn.rows.items ++ map (lag_row_among (map slot_of l.slots) l.topic) (map (λ n. n.now) (take l.place l.groups))
