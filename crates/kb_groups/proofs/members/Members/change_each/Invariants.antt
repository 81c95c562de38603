use Rattle.std.proofs.Common.{◌≡◌, length}
use Rattle.kb_groups.proofs.Each.{front}
use Rattle.kb_groups.proofs.members.Members.change_each.Given as goal

-- The members below i are changed.
abbrev pub invariant-loop-i : goal.invariant-loop-i
invariant-loop-i g l = (l.self-inside.map.entries ≡ front (g.C.Change.changed l.change) l.i l.initial.self-inside.map.entries) × (length l.self-inside.map.entries ≡ l.i-end)
