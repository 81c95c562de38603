-- Entries that are served in order: each changes the state before the next.
use Rattle.std.specs.Prelude.{◌≡◌, ℕ, List, [], ◌∷◌, ◌++◌, take, drop}
use Rattle.std.specs.List.{flat_map}

-- the last state, and what each entry was answered
abbrev pub in_turn : {S E A : Type 0} → (S → E → S × A) → S → List E → S × List A
in_turn f s [] = (s, [])
in_turn f s (e ∷ es) = ((in_turn f (f s e).0 es).0, (f s e).1 ∷ (in_turn f (f s e).0 es).1)

-- Each entry has one answer, and a relation tells what its turn makes of the state, from one state to another.
abbrev pub AreServed : {S E A : Type 0} → (S → E → S → A → Type 0) → S → List E → S → List A → Type 0
AreServed R s [] t [] = t ≡ s
AreServed R s [] t (a ∷ rest) = ⊥
AreServed R s (e ∷ es) t [] = ⊥
AreServed {S = S} R s (e ∷ es) t (a ∷ rest) = (u : S) × (R s e u a × AreServed R u es t rest)

-- The first entries, so many, are so served, and no others.
abbrev pub AreFirstServed : {S E A : Type 0} → (S → E → S → A → Type 0) → S → List E → S → Type 0
AreFirstServed {A = A} R s es t = (n : ℕ) × ((answers : List A) × AreServed R s (take n es) t answers)

-- A relation tells what the first entry makes of the state, which stays where there is none.
abbrev pub IsNextServed : {S E : Type 0} → (S → E → S → Type 0) → S → List E → S → Type 0
IsNextServed R s [] t = t ≡ s
IsNextServed R s (e ∷ es) t = R s e t

-- The first entries, so many, are so served, and of the one behind them another relation tells what it makes of the state.
abbrev pub AreServedInto : {S E A : Type 0} → (S → E → S → A → Type 0) → (S → E → S → Type 0) → S → List E → S → Type 0
AreServedInto {S = S} {A = A} R Last s es t =
    (n : ℕ) × ((answers : List A) × ((u : S) × (AreServed R s (take n es) u answers × IsNextServed Last u (drop n es) t)))

-- the last state, and the answers written behind what was written before
abbrev pub written_behind : {S A : Type 0} → (A → List ℕ) → List ℕ → S × List A → S × List ℕ
written_behind write out r = (r.0, out ++ flat_map write r.1)
