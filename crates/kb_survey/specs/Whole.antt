-- The accepted batches that stand in some bytes, wherever they stand.
use Rattle.std.specs.Prelude.{◌+◌, ℕ, Bool, nat_lt, List, [], ◌∷◌, length, drop, Option, Some, None, zero, suc}
use Rattle.std.specs.List.{concat, filter}
use Rattle.kb_batch.specs.Batch.{count_of, front, natural}
use Rattle.kb_batch.specs.Header.{base_offset_of}
use Rattle.kb_survey.specs.declared.whole.Whole.{Whole}

-- A batch and what is found behind it; where none stands, what is found from the next byte on.
abbrev pub going_on : Option (List ℕ) → (List ℕ → List (List ℕ)) → List ℕ → List (List ℕ)
going_on None find s = find (drop 1 s)
going_on (Some b) find s = b ∷ find (drop (length b) s)

-- in so many steps at most
abbrev pub batches_within : ℕ → List ℕ → List (List ℕ)
batches_within zero s = []
batches_within (suc n) [] = []
batches_within (suc n) (x ∷ s) = going_on (front (x ∷ s)) (batches_within n) (x ∷ s)

-- The batches that stand in the bytes, one behind another, with any other bytes between them.
abbrev pub batches_among : List ℕ → List (List ℕ)
batches_among s = batches_within (length s) s

-- a record of the batch has that offset or a higher one
abbrev pub ends_above : ℕ → List ℕ → Bool
ends_above start b = nat_lt start (natural (base_offset_of b) + count_of b)

abbrev pub whole_of : List (List ℕ) → Whole
whole_of bs = record { batches = length bs; bytes = length (concat bs) }

-- How many of them end above a log's start, and how many bytes those have.
abbrev pub whole_in : ℕ → List ℕ → Whole
whole_in start s = whole_of (filter (ends_above start) (batches_among s))

abbrev pub together : Whole → Whole → Whole
together a b = record { batches = a.batches + b.batches; bytes = a.bytes + b.bytes }

abbrev pub no_batches : Whole
no_batches = record { batches = 0; bytes = 0 }
