use Rattle.std.proofs.Common.{◌≡◌, drop}
use Rattle.kb_groups.specs.Moments.{expired}
use Rattle.kb_groups.proofs.state.State.expire.Given as goal

-- What is left leads to the same.
abbrev pub invariant-loop-i : goal.invariant-loop-i
invariant-loop-i l = expired l.clock (drop l.i l.numbers.items) (record { group = l.self; released = l.out.items }) ≡ expired l.clock l.numbers.items (record { group = l.initial.self; released = l.initial.out.items })
