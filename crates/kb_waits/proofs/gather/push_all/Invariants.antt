use Rattle.std.proofs.Common.{◌≡◌, ◌≤◌, ◌+◌, ◌++◌, vec_len, vec_capacity, length}
use Rattle.kb_waits.proofs.gather.push_all.Given as goal

abbrev pub invariant-loop-connection : goal.invariant-loop-connection
invariant-loop-connection l = record { pushed : l.out.items ++ l.connection-iterator ≡ l.initial.out.items ++ l.set.keys; room : vec_len l.out + length l.connection-iterator ≤ vec_capacity l.out; capacity : vec_capacity l.out ≡ vec_capacity l.initial.out }
