use Rattle.std.proofs.Common.{◌≡◌, ◌<◌, ◌+◌, ◌-◌, ◌^◌, length, min}
use Rattle.std.specs.List.{sum_by}
use Rattle.kb_topics.specs.Catalog.{known}
use Rattle.kb_metrics.specs.Gauges.{partition_count}
use Rattle.kb_metrics.proofs.gather.partition_count.Given as goal

-- the partitions so far, and those of the topics that are still to come, are all
abbrev pub invariant-loop-topic : goal.invariant-loop-topic
invariant-loop-topic g l = record {
  next : (goal.iterator-loop-topic g).can_next l.topic-iterator;
  finite : (goal.iterator-loop-topic g).is_finite l.topic-iterator;
  small : l.count < 2 ^ 64;
  all : min (l.count + sum_by (λ t. length t.1.partitions) l.topic-iterator) (2 ^ 64 - 1) ≡ partition_count (known l.catalog).topics;
}
