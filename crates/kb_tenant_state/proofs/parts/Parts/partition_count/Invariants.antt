use Rattle.std.proofs.Common.{◌≡◌, ◌<◌, ◌+◌, ◌^◌, length}
use Rattle.std.specs.Prelude.{sum_by}
use Rattle.kb_topics.specs.Catalog.{known}
use Rattle.kb_tenant_state.specs.Stored.{partitions_in, up_to_end}
use Rattle.kb_tenant_state.proofs.parts.Parts.partition_count.Given as goal

-- the partitions so far, and those of the topics that are still to come, are all
abbrev pub invariant-loop-topic : goal.invariant-loop-topic
invariant-loop-topic g l = record {
  next : (goal.iterator-loop-topic g).can_next l.topic-iterator;
  finite : (goal.iterator-loop-topic g).is_finite l.topic-iterator;
  small : l.count < 2 ^ 64;
  all : up_to_end (l.count + sum_by (λ t. length t.1.partitions) l.topic-iterator) ≡ up_to_end (partitions_in (known l.self.catalog));
}
