-- What a turn keeps, to be told one by one.
use Rattle.std.specs.Prelude.{◌≡◌, ◌≤◌, ◌<◌, ◌+◌, ◌-◌, ◌^◌, ◌++◌, ◌∷◌, [], min, vec_len, Option, Some, None}
use Rattle.kb_node.specs.declared.firsts.Firsts.{Firsts}

-- One more is there: of the first 16 it is the last, and behind these it is only counted.
abbrev pub IsAdded : {T : Type 0} → T → Firsts T → Firsts T → Type 0
IsAdded it old new = (vec_len old.first < 16 → (new.first.items ≡ old.first.items ++ it ∷ []) × (new.more ≡ old.more))
    × (16 ≤ vec_len old.first → (new.first.items ≡ old.first.items) × (new.more ≡ min (old.more + 1) (2 ^ 64 - 1)))

-- What is told is there, where something is.
abbrev pub IsAddedIf : {T : Type 0} → Option T → Firsts T → Firsts T → Type 0
IsAddedIf None old new = new ≡ old
IsAddedIf (Some it) old new = IsAdded it old new
