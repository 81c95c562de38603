use Rattle.std.proofs.Common.{◌≡◌, ◌+◌, take}
use Rattle.std.specs.List.{sum_by}
use Rattle.kb_tenant.specs.Entries.{listing_weight}
use Rattle.kb_tenant.proofs.within.left_behind.Given as goal

-- what was counted, and what is left, is what there was
abbrev pub invariant-loop-partition : goal.invariant-loop-partition
invariant-loop-partition l = sum_by listing_weight (take l.partition-index l.partitions) + l.left ≡ l.fn.left
