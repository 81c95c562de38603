use Rattle.std.proofs.Common.{◌≡◌, ◌<◌, ◌+◌, ◌^◌}
use Rattle.kb_topics.specs.Catalog.{known}
use Rattle.kb_tenant_state.specs.Stored.{offsets_in, offsets_to_all, up_to_end}
use Rattle.kb_metrics.proofs.gather.offset_count.Given as goal

-- the offsets so far, and those of the topics that are still to come, are all
abbrev pub invariant-loop-topic : goal.invariant-loop-topic
invariant-loop-topic g l = record {
  next : (goal.iterator-loop-topic g).can_next l.topic-iterator;
  finite : (goal.iterator-loop-topic g).is_finite l.topic-iterator;
  small : l.count < 2 ^ 64;
  all : up_to_end (l.count + offsets_to_all l.topic-iterator) ≡ up_to_end (offsets_in (known l.catalog));
}
