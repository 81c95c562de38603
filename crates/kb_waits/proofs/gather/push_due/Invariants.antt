use Rattle.std.proofs.Common.{◌≡◌, ◌≤◌, ◌+◌, ◌++◌, vec_len, vec_capacity, length}
use Rattle.std.specs.List.Sorted.{IsStrictlySortedBy}
use Rattle.kb_waits.specs.Due.{by_deadline, due_of}
use Rattle.kb_waits.proofs.gather.push_due.Given as goal

abbrev pub invariant-loop-pair : goal.invariant-loop-pair
invariant-loop-pair l = record { pushed : l.out.items ++ due_of l.clock l.pair-iterator ≡ l.initial.out.items ++ due_of l.clock l.deadlines.keys; ordered : IsStrictlySortedBy by_deadline l.pair-iterator; room : vec_len l.out + length l.pair-iterator ≤ vec_capacity l.out; capacity : vec_capacity l.out ≡ vec_capacity l.initial.out }
