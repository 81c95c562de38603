use Rattle.std.proofs.Common.{◌≡◌, drop}
use Rattle.kb_groups.specs.Rebalance.{all_join}
use Rattle.kb_groups.proofs.members.Members.all_join.Given as goal

-- What is left says whether all wait.
abbrev pub invariant-loop-i : goal.invariant-loop-i
invariant-loop-i l = all_join (drop l.i l.self-inside.map.entries) ≡ all_join l.self-inside.map.entries
