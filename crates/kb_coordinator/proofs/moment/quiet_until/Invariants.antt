use Rattle.std.proofs.Common.{◌≤◌, min, drop}
use Rattle.kb_groups.specs.Moments.{never}
use Rattle.kb_coordinator.specs.Groups.{earliest}
use Rattle.kb_coordinator.proofs.moment.quiet_until.Given as goal

-- The groups up to here, and those after, are quiet so long.
abbrev pub invariant-loop-i : goal.invariant-loop-i
invariant-loop-i l = (min l.quiet_until (earliest (drop l.i l.groups)) ≤ earliest l.groups) × (l.quiet_until ≤ never)
