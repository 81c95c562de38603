use Rattle.std.proofs.Common.{◌≡◌}
use Rattle.std.specs.Prelude.{max}
use Rattle.kb_tenant_state.specs.Ids.{next_id_among_all}
use Rattle.kb_tenant_state.proofs.partitions.Partitions.next_id.Given as goal

-- the greatest so far, and that of the topics that are still to come
abbrev pub invariant-loop-partitions : goal.invariant-loop-partitions
invariant-loop-partitions g l = record {
  next : (goal.iterator-loop-partitions g).can_next l.partitions-iterator;
  finite : (goal.iterator-loop-partitions g).is_finite l.partitions-iterator;
  all : max l.next (next_id_among_all l.partitions-iterator) ≡ next_id_among_all l.self.topics.entries;
}
