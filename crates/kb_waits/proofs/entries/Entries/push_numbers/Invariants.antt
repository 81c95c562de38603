use Rattle.std.proofs.Common.{◌≡◌, ◌≤◌, ◌+◌, ◌++◌, vec_len, vec_capacity, length}
use Rattle.std.specs.Map.{keys_of}
use Rattle.kb_waits.proofs.entries.Entries.push_numbers.Given as goal

abbrev pub invariant-loop-connection : goal.invariant-loop-connection
invariant-loop-connection l = record { pushed : l.out.items ++ keys_of l.connection-iterator ≡ l.initial.out.items ++ keys_of l.initial.connection-iterator; room : vec_len l.out + length l.connection-iterator ≤ vec_capacity l.out; capacity : vec_capacity l.out ≡ vec_capacity l.initial.out }
