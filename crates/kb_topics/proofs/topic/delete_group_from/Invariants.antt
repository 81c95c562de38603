use Rattle.std.proofs.Common.{◌≡◌, ◌++◌, map, take, drop}
use Rattle.kb_topics.specs.Known.{without_commit}
use Rattle.kb_topics.proofs.topic.delete_group_from.Given as goal

-- Those up to here are changed, and those after are to be.
abbrev pub invariant-loop-i : goal.invariant-loop-i
invariant-loop-i l = take l.i l.partitions.items ++ map (without_commit l.group) (drop l.i l.partitions.items) ≡ map (without_commit l.group) l.initial.partitions.items
