use Rattle.std.proofs.Common.{◌≡◌, ◌++◌, drop, map}
use Rattle.kb_coordinator.specs.Requests.{assigned_to}
use Rattle.kb_coordinator.proofs.convert.assignments.Given as goal

-- What was made, and what is left, are all.
abbrev pub invariant-loop-one : goal.invariant-loop-one
invariant-loop-one l = l.assignments.items ++ map assigned_to (drop l.one-index l.given) ≡ map assigned_to l.given
