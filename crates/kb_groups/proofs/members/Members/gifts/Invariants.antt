use Rattle.std.proofs.Common.{◌≡◌, ◌++◌, drop, map}
use Rattle.kb_groups.specs.Calls.{assigned}
use Rattle.kb_groups.proofs.members.Members.gifts.Given as goal

-- What was made, and what is left, are all.
abbrev pub invariant-loop-i : goal.invariant-loop-i
invariant-loop-i l = l.gifts.items ++ map (λ e. assigned l.assignments e.0) (drop l.i l.self-inside.map.entries) ≡ map (λ e. assigned l.assignments e.0) l.self-inside.map.entries
