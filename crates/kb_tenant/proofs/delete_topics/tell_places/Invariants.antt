use Rattle.std.proofs.Common.{◌≡◌, ◌++◌, ◌+◌, ◌-◌, ◌≤◌}
use Rattle.std.specs.Prelude.{vec_len, vec_capacity}
use Rattle.kb_tenant.specs.DeleteTopics.{places}
use Rattle.kb_tenant.proofs.delete_topics.tell_places.Given as goal

-- the partitions so far are told, and there is room for the others
abbrev pub invariant-loop-number : goal.invariant-loop-number
invariant-loop-number g l = record {
  told : l.touched.items ≡ l.initial.touched.items ++ places l.instance l.number;
  room : vec_len l.touched + (l.count - l.number) ≤ vec_capacity l.touched;
}
