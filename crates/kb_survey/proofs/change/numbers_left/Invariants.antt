use Rattle.std.proofs.Common.{◌≡◌, ◌++◌, drop, not}
use Rattle.std.specs.List.{filter}
use Rattle.kb_survey.specs.Changes.{removes}
use Rattle.kb_survey.proofs.change.numbers_left.Given as goal

abbrev pub invariant-loop-number : goal.invariant-loop-number
invariant-loop-number l =
    l.left.items ++ filter (λ file. not (removes l.changes.items file)) (drop l.number-index l.numbers)
    ≡ filter (λ file. not (removes l.changes.items file)) l.numbers
