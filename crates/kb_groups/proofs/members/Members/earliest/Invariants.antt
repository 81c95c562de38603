use Rattle.std.proofs.Common.{◌≡◌, ◌≤◌, drop, min}
use Rattle.kb_groups.specs.Moments.{earliest, never}
use Rattle.kb_groups.proofs.members.Members.earliest.Given as goal

-- What was found and what is left have the first end.
abbrev pub invariant-loop-i : goal.invariant-loop-i
invariant-loop-i l = (min l.earliest (earliest (drop l.i l.self-inside.map.entries)) ≡ earliest l.self-inside.map.entries) × (l.earliest ≤ never)
