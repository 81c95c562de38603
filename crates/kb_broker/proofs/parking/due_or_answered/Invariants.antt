use Rattle.std.proofs.Common.{◌≡◌, ◌++◌, take}
use Rattle.kb_broker.proofs.parking.due_or_answered.Given as goal

abbrev pub invariant-loop-number : goal.invariant-loop-number
invariant-loop-number l = l.numbers.items ≡ l.initial.numbers.items ++ take l.number-index l.answered
