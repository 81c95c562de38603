use Rattle.std.proofs.Common.{◌≡◌, ◌<◌, ◌+◌, ◌^◌}
use Rattle.std.specs.Prelude.{sum_by}
use Rattle.kb_topics.specs.Catalog.{known}
use Rattle.kb_tenant_state.specs.Stored.{texts_by, texts_of, up_to_end}
use Rattle.kb_tenant_state.proofs.parts.Parts.group_texts.Given as goal

-- the texts so far, and those of the topics that are still to come, are all
abbrev pub invariant-loop-topic : goal.invariant-loop-topic
invariant-loop-topic g l = record {
  next : (goal.iterator-loop-topic g).can_next l.topic-iterator;
  finite : (goal.iterator-loop-topic g).is_finite l.topic-iterator;
  small : l.sum < 2 ^ 64;
  all : up_to_end (l.sum + sum_by (λ t. texts_of l.group t.1.partitions) l.topic-iterator) ≡ up_to_end (texts_by l.group (known l.self.catalog));
}
