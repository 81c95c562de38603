use Rattle.std.proofs.Common.{◌≡◌, ◌≤◌, length}
use Rattle.std.specs.Prelude.{vec_len}
use Rattle.kb_node.proofs.doors.Doors.open.Given as goal

-- each listener has its address, and there is none but for an address that came
abbrev pub invariant-loop-address : goal.invariant-loop-address
invariant-loop-address g l = (vec_len l.doors.addresses ≡ vec_len l.doors.listeners) × (vec_len l.doors.listeners ≤ length l.yielded)
