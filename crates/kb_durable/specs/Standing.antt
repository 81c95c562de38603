-- What a loss of power may not touch stays, call after call.
use Rattle.std.specs.Prelude.{◌≡◌, ◌≤◌, ◌++◌, ℕ, List, length, IsSome, Some, unwrap_or}
use Rattle.std.specs.FinMap.{get}
use Rattle.kb_store.specs.Disk.{Files, Table}
use Rattle.kb_store.specs.Loss.{Loss}

-- Each of some files is found, with its bytes as a front.
abbrev pub HasFronts : Files → Files → Type 0
HasFronts files found = (file : ℕ) (bytes : List ℕ) → get files file ≡ Some bytes → (rest : List ℕ) × (get found file ≡ Some (bytes ++ rest))

-- Each of some files is in the table, which has it no shorter.
abbrev pub AreCoveredBy : Files → Table → Type 0
AreCoveredBy files table = (file : ℕ) (bytes : List ℕ) → get files file ≡ Some bytes → IsSome (get table file) × (length bytes ≤ unwrap_or (get table file) 0)

-- No loss at this moment touches them.
abbrev pub AreSafe : Files → Loss → Type 0
AreSafe files l = (found : Files) → l.leaves found → HasFronts files found

-- What no loss could touch before, of the files of a table, no loss at any moment since could touch: within the call too.
abbrev pub Stands : Table → Loss → Loss → Type 0
Stands table before after =
    (files : Files) → AreCoveredBy files table → AreSafe files before → (found : Files) → after.left_since before.moment found → HasFronts files found
