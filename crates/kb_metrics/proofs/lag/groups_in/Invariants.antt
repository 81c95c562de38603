use Rattle.std.proofs.Common.{take, map}
use Rattle.std.specs.List.{flat_map}
use Rattle.kb_metrics.specs.Gauges.{groups_at}
use Rattle.kb_metrics.specs.Slots.{HaveSame}
use Rattle.kb_metrics.proofs.lag.groups_in.Given as goal

-- the groups of the partitions so far
abbrev pub invariant-loop-partition : goal.invariant-loop-partition
invariant-loop-partition l = HaveSame (map (λ g. g.now) l.groups.items) (flat_map groups_at (take l.partition-index l.topic.partitions))
