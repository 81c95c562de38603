-- Whose turn it is.
use Rattle.std.specs.Prelude.{◌≡◌, ℕ, ◌+◌, ◌==◌, ◌++◌, List, [], ◌∷◌, Bool, map, drop, length, slice_get, slice_index_or, nat_eq, nat_lt, if◌then◌else◌, Option, None}
use Rattle.std.specs.List.{list_any, sum_by}

-- 1. Lines

-- the holders with members that wait, in the order in which they are next, each with those members in order
abbrev pub Lines : Type 0
Lines = List (ℕ × List ℕ)

-- whose they are
abbrev pub holders_of : Lines → List ℕ
holders_of lines = map (λ l. l.0) lines

abbrev pub has_line : ℕ → Lines → Bool
has_line holder lines = list_any (λ l. l.0 == holder) lines

-- 2. The calls

-- A member comes behind the others of its holder. The first one of a holder brings it behind all holders.
abbrev pub enqueued : ℕ → ℕ → Lines → Lines
enqueued holder member lines =
    if has_line holder lines then map (λ l. if l.0 == holder then (l.0, l.1 ++ member ∷ []) else l) lines
    else lines ++ (holder, member ∷ []) ∷ []

-- whose turn it is: the first member of the first holder
abbrev pub next : Lines → Option ℕ
next [] = None
next (l ∷ lines) = slice_get l.1 0

-- That one leaves. Its holder comes behind all others, if more of its members wait.
abbrev pub after_next : Lines → Lines
after_next [] = []
after_next (l ∷ lines) = lines ++ (if nat_lt 1 (length l.1) then (l.0, drop 1 l.1) ∷ [] else [])

-- 3. What is kept

-- the members of each holder that wait, by its place, and the order of those that have some
abbrev pub lines_of : List (List ℕ) → List ℕ → Lines
lines_of members order = map (λ h. (h, slice_index_or members h [])) order

-- how often a holder stands in the order
abbrev pub times : ℕ → List ℕ → ℕ
times holder order = sum_by (λ h. if nat_eq h holder then 1 else 0) order

-- A holder stands in the order once where it has members that wait, and else not.
pub record IsInOrder (members : List (List ℕ)) (order : List ℕ) : Type 0 where
  pub once : (holder : ℕ) → times holder order ≡ (if nat_lt 0 (length (slice_index_or members holder [])) then 1 else 0)

-- 4. Lists of calls

pub data Step : Type 0 where
  Join : ℕ → ℕ → Step
  Next : Step

abbrev pub after_step : Step → Lines → Lines
after_step (Join holder member) lines = enqueued holder member lines
after_step Next lines = after_next lines

-- the lines after all of them, one after the other
abbrev pub after_steps : List Step → Lines → Lines
after_steps [] lines = lines
after_steps (step ∷ steps) lines = after_steps steps (after_step step lines)

-- how many turns there are among them
abbrev pub turns_in : List Step → ℕ
turns_in [] = 0
turns_in (Join holder member ∷ steps) = turns_in steps
turns_in (Next ∷ steps) = 1 + turns_in steps
