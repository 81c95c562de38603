use Rattle.std.proofs.Common.{◌≡◌, ◌++◌, drop, not}
use Rattle.std.specs.List.{filter}
use Rattle.kb_durable.specs.Waiting.{has}
use Rattle.kb_durable.proofs.waiting.numbers_left.Given as goal

abbrev pub invariant-loop-number : goal.invariant-loop-number
invariant-loop-number l =
    l.left.items ++ filter (λ file. not (has l.waiting.items file)) (drop l.number-index l.numbers)
    ≡ filter (λ file. not (has l.waiting.items file)) l.numbers
