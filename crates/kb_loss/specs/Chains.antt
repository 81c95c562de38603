-- What a loss of power leaves of the files of a log.
use Rattle.std.specs.Prelude.{◌≡◌, ◌≤◌, ◌⊎◌, ◌++◌, ℕ, List, [], ◌∷◌}
use Rattle.std.specs.List.{Contains}
use Rattle.kb_store.specs.Disk.{Files}
use Rattle.kb_log.specs.Log.{starting}
use Rattle.kb_segment_log.specs.Chain.{Part, Chain, base_at, part_at, numbers_in}
use Rattle.kb_loss.specs.Fronts.{IsFrontOf}

-- A file begins at the offset at which it began, and its bytes go on from what they were.
pub record GoesOn (old new : Part) : Type 0 where
  pub base : new.base ≡ old.base
  pub body : IsFrontOf old.body new.body

-- Each of some files of a log, in order, is found as it was, but the last may go on.
abbrev pub AreFound : Files → Files → List ℕ → List ℕ → Type 0
AreFound files found there [] = Unit {0}
AreFound files found there (n ∷ []) = Contains there n × GoesOn (part_at files n) (part_at found n)
AreFound files found there (n ∷ m ∷ ns) =
    Contains there n × (part_at found n ≡ part_at files n) × AreFound files found there (m ∷ ns)

-- where the first of some files begins, or else at that offset
abbrev pub first_at : Files → ℕ → List ℕ → ℕ
first_at files end [] = end
first_at files end (n ∷ ns) = base_at files n

-- Of the files that a chain is in, the first ones are gone, or none: they end at a start or below it. The others are found, and each
-- further file of the log begins at the end of the chain or behind it.
pub record LastsIn {files : Files} {numbers : List ℕ} {from : ℕ} {bs : List (List ℕ)} (c : Chain files numbers from bs) (start : ℕ)
    (found : Files) (there : List ℕ) : Type 0 where
  pub gone : List ℕ
  pub kept : List ℕ
  pub split : numbers_in c ≡ gone ++ kept
  pub below : (gone ≡ []) ⊎ (first_at files c.end kept ≤ start)
  pub stay : AreFound files found there kept
  pub further : (n : ℕ) → Contains there n → Contains kept n ⊎ (c.end ≤ base_at found n)

-- From a start on a log has all the batches that it had, and others behind them, if any. It ends no earlier, so that no offset is given
-- out twice; of an empty log that is said where its end is recorded as a start. And it does not end below the start.
pub record HasAll (start : ℕ) (old : List (List ℕ)) (old_end : ℕ) (new : List (List ℕ)) (new_end : ℕ) : Type 0 where
  pub batches : IsFrontOf (starting start old) new
  pub ends : (old ≡ [] → old_end ≤ start) → old_end ≤ new_end
  pub starts : start ≤ new_end
