use Rattle.std.proofs.Common.{◌≡◌, ◌<◌, ◌+◌, ◌^◌}
use Rattle.kb_topics.specs.Catalog.{known}
use Rattle.kb_tenant_state.specs.Stored.{texts_in, texts_to_all, up_to_end}
use Rattle.kb_tenant_state.proofs.usage.text_sum.Given as goal

-- the texts so far, and those of the topics that are still to come, are all
abbrev pub invariant-loop-topic : goal.invariant-loop-topic
invariant-loop-topic g l = record {
  next : (goal.iterator-loop-topic g).can_next l.topic-iterator;
  finite : (goal.iterator-loop-topic g).is_finite l.topic-iterator;
  small : l.sum < 2 ^ 64;
  all : up_to_end (l.sum + texts_to_all l.topic-iterator) ≡ up_to_end (texts_in (known l.catalog));
}
