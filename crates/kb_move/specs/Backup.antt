-- A backup of a store whose files grow meanwhile.
use Rattle.std.specs.Prelude.{◌≡◌, ◌++◌, ℕ, List, Option, Some, length, option_map, take}
use Rattle.std.specs.FinMap.{get}
use Rattle.kb_store.specs.Disk.{Files, Table}
use Rattle.kb_segment_log.specs.SegmentLog.{bytes_at}

-- Those are the numbers and the lengths of the files of a moment.
abbrev pub AreLengths : Table → Files → Type 0
AreLengths lengths moment = (file : ℕ) → get lengths file ≡ option_map length (get moment file)

-- Each file of that moment is there later, too, with more behind what it had. New ones may have come.
abbrev pub HaveGrown : Files → Files → Type 0
HaveGrown moment later = (file : ℕ) (bytes : List ℕ) → get moment file ≡ Some bytes → (more : List ℕ) × (get later file ≡ Some (bytes ++ more))

-- A backup has the files that have a length, each as it is later, up to that length. It has no other.
abbrev pub IsBackup : Table → Files → Files → Type 0
IsBackup lengths later backup = (file : ℕ) → get backup file ≡ option_map (λ len. take len (bytes_at later file)) (get lengths file)
