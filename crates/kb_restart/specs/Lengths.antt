-- How long the files of a store are, and what was dropped of them.
use Rattle.std.specs.Prelude.{◌<◌, ◌==◌, ℕ, List, [], ◌∷◌, length, map, Option, Some, None, unwrap_or, nat_le, if◌then◌else◌}
use Rattle.std.specs.FinMap.{get, keys}
use Rattle.std.specs.List.{AllByRecursion, filter_map, sum_by}
use Rattle.kb_store.specs.Disk.{Disk, Table}
use Rattle.kb_restart.specs.Counts.{told}
use Rattle.kb_restart.specs.declared.lengths.Dropped.{Dropped}
use Rattle.kb_restart.specs.declared.lengths.FileLength.{FileLength}
use Rattle.kb_restart.specs.declared.lengths.FileTotal.{FileTotal}

-- the length that a table has of a file, 0 where it has none
abbrev pub length_of : Table → ℕ → ℕ
length_of table file = unwrap_or (get table file) 0

-- each file of a table with its length
abbrev pub listed_in : Table → List FileLength
listed_in table = map (λ file. record { file = file; length = length_of table file }) (keys table)

-- the same of a store
abbrev pub lengths_of : Disk → List FileLength
lengths_of d = listed_in d.table

-- how many files are some, and how many bytes they have together
abbrev pub file_total_of : List FileLength → FileTotal
file_total_of files = record { files = length files; bytes = told (sum_by (λ f. f.length) files) }

-- the same of all files of a table
abbrev pub total_in : Table → FileTotal
total_in table = record { files = length (keys table); bytes = told (sum_by (length_of table) (keys table)) }

-- each number is below those behind it
abbrev pub AreRising : List FileLength → Type 0
AreRising [] = Unit {0}
AreRising (f ∷ fs) = AllByRecursion (λ (g : FileLength). f.file < g.file) fs × AreRising fs

-- the length of a file, if it is one of some
abbrev pub length_in : ℕ → List FileLength → Option ℕ
length_in file [] = None
length_in file (f ∷ fs) = if f.file == file then Some f.length else length_in file fs

-- what was dropped of a file that is so long now, or is gone
abbrev pub drop_of : FileLength → Option ℕ → Option Dropped
drop_of f None = Some (record { file = f.file; before = f.length; after = None })
drop_of f (Some now) = if nat_le f.length now then None else Some (record { file = f.file; before = f.length; after = Some now })

-- what was dropped of files that were so long, by how long those are that are there now
abbrev pub drops : List FileLength → List FileLength → List Dropped
drops before after = filter_map (λ (f : FileLength). drop_of f (length_in f.file after)) before

-- ---- side by side

-- without the files in front that have lower numbers
abbrev pub from_file : ℕ → List FileLength → List FileLength
from_file file [] = []
from_file file (f ∷ fs) = if nat_le file f.file then f ∷ fs else from_file file fs

-- the length of a file, if it is the first
abbrev pub length_at : ℕ → List FileLength → Option ℕ
length_at file [] = None
length_at file (f ∷ fs) = if f.file == file then Some f.length else None
