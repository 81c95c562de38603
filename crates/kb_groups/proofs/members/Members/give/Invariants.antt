use Rattle.std.proofs.Common.{◌≡◌, ◌≤◌, ℕ, List, [], length, vec_len, get_or, map}
use Rattle.kb_groups.specs.declared.borrowed.SyncAssignment.{SyncAssignment}
use Rattle.kb_groups.specs.Calls.{assigned, given}
use Rattle.kb_groups.proofs.Each.{front}
use Rattle.kb_groups.proofs.members.Members.give.Given as goal

-- The members below i have their assignments, and the others' are still among the gifts.
abbrev pub invariant-loop-i : goal.invariant-loop-i
invariant-loop-i l =
    (length l.self-inside.map.entries ≡ l.i-end)
    × (vec_len l.gifts ≡ l.i-end)
    × ((as_ : List SyncAssignment) → l.initial.gifts.items ≡ map (λ e. assigned as_ e.0) l.initial.self-inside.map.entries →
    (l.self-inside.map.entries ≡ front (given l.clock as_ l.leader) l.i l.initial.self-inside.map.entries)
    × ((k : ℕ) → l.i ≤ k → get_or l.gifts.items k [] ≡ get_or l.initial.gifts.items k []))
