use Rattle.std.proofs.Common.{◌≡◌}
use Rattle.std.specs.Prelude.{replicate}
use Rattle.kb_topics.specs.Known.{new_partition}
use Rattle.kb_topics.proofs.topic.new_partitions.Given as goal

abbrev pub invariant-loop : goal.invariant-loop
invariant-loop l = l.partitions.items ≡ replicate l.counter new_partition
