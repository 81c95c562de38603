use Rattle.std.proofs.Common.{◌≡◌, drop}
use Rattle.kb_groups.specs.Answers.{any_waits}
use Rattle.kb_groups.proofs.members.Members.any_waits.Given as goal

-- What is left says whether a request waits.
abbrev pub invariant-loop-i : goal.invariant-loop-i
invariant-loop-i l = any_waits (drop l.i l.self-inside.map.entries) ≡ any_waits l.self-inside.map.entries
