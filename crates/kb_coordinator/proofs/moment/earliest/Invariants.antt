use Rattle.std.proofs.Common.{◌≡◌, ◌≤◌, min, drop}
use Rattle.kb_groups.specs.Moments.{never}
use Rattle.kb_coordinator.specs.Groups.{earliest}
use Rattle.kb_coordinator.proofs.moment.earliest.Given as goal

-- The first moment of the groups up to here, and of those after, is the first of all.
abbrev pub invariant-loop-i : goal.invariant-loop-i
invariant-loop-i l = (min l.earliest (earliest (drop l.i l.groups)) ≡ earliest l.groups) × (l.earliest ≤ never)
