use Rattle.std.proofs.Common.{◌≡◌, drop, max}
use Rattle.kb_groups.specs.Rebalance.{longest}
use Rattle.kb_groups.proofs.members.Members.longest.Given as goal

-- What is left and what was found give the longest.
abbrev pub invariant-loop-i : goal.invariant-loop-i
invariant-loop-i l = max l.longest (longest (drop l.i l.self-inside.map.entries)) ≡ longest l.self-inside.map.entries
