use Rattle.std.proofs.Common.{◌≡◌, ◌++◌, drop, map}
use Rattle.kb_groups.proofs.members.Members.numbers.Given as goal

-- What was made, and what is left, are all.
abbrev pub invariant-loop-i : goal.invariant-loop-i
invariant-loop-i l = l.numbers.items ++ map (λ e. e.0) (drop l.i l.self-inside.map.entries) ≡ map (λ e. e.0) l.self-inside.map.entries
