use Rattle.std.proofs.Common.{◌≡◌, take, map}
use Rattle.kb_metrics.specs.Slots.{lag_among, slot_of}
use Rattle.kb_metrics.proofs.lag.lag.Given as goal

-- the lag in the partitions so far
abbrev pub invariant-loop-slot : goal.invariant-loop-slot
invariant-loop-slot l = l.sum ≡ lag_among l.group (map slot_of (take l.slot-index l.slots))
