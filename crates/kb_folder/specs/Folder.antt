-- A folder of numbered files, and how a call takes it from one state to the next.
use Rattle.std.specs.Prelude.{◌≡◌, ◌≤◌, ◌+◌, ◌++◌, ℕ, List, [], length, take, drop, unwrap_or, IsSome, Contains}
use Rattle.std.specs.FinMap.{get, insert}
use Rattle.kb_store.specs.Disk.{Files}

-- The bytes of a folder's files by number, and whether all its answers so far were those of these files.
pub record Contents : Type 1 where
  pub files : Files
  pub honest : Type 0

-- the bytes of a file, none where there is none
abbrev pub bytes_in : Contents → ℕ → List ℕ
bytes_in c file = unwrap_or (get c.files file) []

-- an honest folder has the file
abbrev pub Has : Contents → ℕ → Type 0
Has c file = c.honest → IsSome (get c.files file)

-- and of that length
abbrev pub HasLength : Contents → ℕ → ℕ → Type 0
HasLength c file n = c.honest → IsSome (get c.files file) × (n ≡ length (bytes_in c file))

-- Where the folder is honest now it was before, and its files are those.
pub record Turns (old : Contents) (with : Files) (new : Contents) : Type 0 where
  pub honest : new.honest → old.honest
  pub files : new.honest → new.files ≡ with

-- Nothing changes.
abbrev pub Stays : Contents → Contents → Type 0
Stays old new = Turns old old.files new

-- Nothing changes, and it is honest if it was.
pub record IsAsBefore (old new : Contents) : Type 0 where
  pub files : new.files ≡ old.files
  pub honest : new.honest → old.honest
  pub still : old.honest → new.honest

-- The file ends with those bytes, behind what it had.
abbrev pub AddsBytes : Contents → ℕ → List ℕ → Contents → Type 0
AddsBytes old file bytes new = Turns old (insert old.files file (bytes_in old file ++ bytes)) new

-- The numbers are those of the files, in any order.
pub record AreNumbersOf (numbers : List ℕ) (files : Files) : Type 0 where
  pub all : (n : ℕ) → IsSome (get files n) → Contains numbers n
  pub only : (n : ℕ) → Contains numbers n → IsSome (get files n)

-- A read of what is within the bytes fills the buffer with them.
abbrev pub ReadsWhole : List ℕ → ℕ → List ℕ → ℕ → List ℕ → Type 0
ReadsWhole bytes at old n new = at + length old ≤ length bytes → (n ≡ length old) × (new ≡ take (length old) (drop at bytes))
