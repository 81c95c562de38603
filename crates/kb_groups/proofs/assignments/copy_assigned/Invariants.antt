use Rattle.std.proofs.Common.{◌≡◌, drop}
use Rattle.kb_groups.specs.Calls.{assigned}
use Rattle.kb_groups.proofs.assignments.copy_assigned.Given as goal

-- What is left assigns the same.
abbrev pub invariant-loop-entry : goal.invariant-loop-entry
invariant-loop-entry l = assigned (drop l.entry-index l.assignments) l.number ≡ assigned l.assignments l.number
