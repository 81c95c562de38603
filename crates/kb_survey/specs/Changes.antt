-- Changes of a disk that are put off, and the disk that it would be with them made.
use Rattle.std.specs.Prelude.{◌≤◌, ◌==◌, ◌||◌, ℕ, Bool, false, List, [], ◌∷◌, take, min, unwrap_or, IsSome, if◌then◌else◌}
use Rattle.std.specs.FinMap.{get, insert, remove}
use Rattle.kb_store.specs.Disk.{Disk, Files, Table}
use Rattle.kb_survey.specs.declared.change.Change.{Change}
use Rattle.kb_survey.specs.declared.change.Change.TheVariants.{Cut, Remove}

-- ---- one change

-- the numbers and lengths with a change made
abbrev pub table_with : Change → Table → Table
table_with (Cut file len) t = insert t file (min len (unwrap_or (get t file) 0))
table_with (Remove file) t = remove t file

-- the files with it made
abbrev pub files_with : Change → Files → Files
files_with (Cut file len) f = insert f file (take len (unwrap_or (get f file) []))
files_with (Remove file) f = remove f file

-- it is of a file that is there, which is no shorter
abbrev pub IsPossible : Change → Table → Type 0
IsPossible (Cut file len) t = IsSome (get t file) × (len ≤ unwrap_or (get t file) 0)
IsPossible (Remove file) t = IsSome (get t file)

-- ---- several, the first one first

abbrev pub table_after : List Change → Table → Table
table_after [] t = t
table_after (c ∷ cs) t = table_after cs (table_with c t)

abbrev pub files_after : List Change → Files → Files
files_after [] f = f
files_after (c ∷ cs) f = files_after cs (files_with c f)

-- each is possible once those before it are made
abbrev pub ArePossible : List Change → Table → Type 0
ArePossible [] t = Unit {0}
ArePossible (c ∷ cs) t = IsPossible c t × ArePossible cs (table_with c t)

-- a disk with them made
abbrev pub disk_after : List Change → Disk → Disk
disk_after cs d =
    record { table = table_after cs d.table; files = files_after cs d.files; honest = d.honest; failures = d.failures }

-- ---- what they leave of one file

abbrev pub is_removal : Change → ℕ → Bool
is_removal (Cut k len) file = false
is_removal (Remove k) file = k == file

-- one of them removes the file
abbrev pub removes : List Change → ℕ → Bool
removes [] file = false
removes (c ∷ cs) file = is_removal c file || removes cs file

-- how long it is with a change made, if it is so long without and is still there
abbrev pub length_with : Change → ℕ → ℕ → ℕ
length_with (Cut k len) file n = if k == file then min n len else n
length_with (Remove k) file n = n

abbrev pub length_after : List Change → ℕ → ℕ → ℕ
length_after [] file n = n
length_after (c ∷ cs) file n = length_after cs file (length_with c file n)
