-- What a loss of power may leave of a store's files, and how each call changes that. A file system promises no more than POSIX does of
-- fsync: until it is called, a write may be there, in part or not at all, and so may a name (POSIX.1-2017, fsync, fdatasync).
use Rattle.std.specs.Prelude.{◌≡◌, ◌≢◌, ◌≤◌, ◌⊎◌, ◌++◌, ℕ, List, [], take, unwrap_or, IsSome, None}
use Rattle.std.specs.FinMap.{get}
use Rattle.kb_store.specs.Disk.{Files, Table}

-- What a loss at this moment may leave; and what one at some moment from a given one on might have left, within a call or between two.
pub record Loss : Type 1 where
  pub leaves : Files → Type 0
  pub moment : ℕ
  pub left_since : ℕ → Files → Type 0

-- This moment is one of those since an earlier one, and since this moment there is no other.
pub record IsLawfulLoss (l : Loss) : Type 0 where
  pub counts_now : (t : ℕ) (found : Files) → t ≤ l.moment → l.leaves found → l.left_since t found
  pub only_now : (found : Files) → l.left_since l.moment found → l.leaves found

-- Of what is in memory alone a loss leaves nothing that could be opened.
abbrev pub nothing_left : Loss
nothing_left = record { leaves = λ _. ⊥; moment = 0; left_since = λ _ _. ⊥ }

-- ---- what a call that is not synced may change of what is left

-- The bytes that are found of a file, none where there is none.
abbrev pub found_of : Files → ℕ → List ℕ
found_of files file = unwrap_or (get files file) []

-- Each other file is as it was.
abbrev pub AreOthers : ℕ → Files → Files → Type 0
AreOthers file old new = (other : ℕ) → other ≢ file → get new other ≡ get old other

-- The first bytes of a file stand, as many as the call leaves alone, and behind them is anything.
pub record Tears (file keep : ℕ) (old new : Files) : Type 0 where
  pub others : AreOthers file old new
  pub there : IsSome (get old file) → IsSome (get new file)
  pub tail : List ℕ
  pub bytes : found_of new file ≡ take keep (found_of old file) ++ tail

-- A file that is made may be there, with anything in it, or not.
abbrev pub Makes : ℕ → Files → Files → Type 0
Makes file old new = AreOthers file old new

-- A file that is removed may be there as it was, or not.
pub record Drops (file : ℕ) (old new : Files) : Type 0 where
  pub others : AreOthers file old new
  pub either : (get new file ≡ get old file) ⊎ (get new file ≡ None)

-- Nothing changes.
abbrev pub Same : Files → Files → Type 0
Same old new = new ≡ old

-- The files of a table are as they were, and each other is as it was or is gone.
pub record Clears (table : Table) (old new : Files) : Type 0 where
  pub stays : (file : ℕ) → IsSome (get table file) → get new file ≡ get old file
  pub either : (file : ℕ) → (get new file ≡ get old file) ⊎ (get new file ≡ None)

-- ---- from one moment to a later one

-- What a loss may leave now is what it might have left before, after a step; so is what one between might have left, where that could not
-- have been left before. And time goes on.
pub record Goes (step : Files → Files → Type 0) (old new : Loss) : Type 0 where
  pub later : old.moment ≤ new.moment
  pub now : (found : Files) → new.leaves found → (before : Files) × old.leaves before × step before found
  pub between : (t : ℕ) (found : Files) → t ≤ old.moment → new.left_since t found
      → old.left_since t found ⊎ ((before : Files) × old.leaves before × step before found)
  pub keeps : (t : ℕ) (found : Files) → t ≤ old.moment → old.left_since t found → new.left_since t found

-- A loss leaves the files as they are, and nothing else.
abbrev pub Only : Files → Loss → Type 0
Only files l = (found : Files) → l.leaves found → found ≡ files
