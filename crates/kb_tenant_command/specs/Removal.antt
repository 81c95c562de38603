-- What a removal of a tenant's files leaves.
use Rattle.std.specs.Prelude.{◌≡◌, ℕ, List, take}
use Rattle.kb_store.specs.Disk.{Disk, Files}
use Rattle.kb_start.specs.Deleted.{without_files}
use Rattle.kb_move.specs.Copied.{owned}

-- files without so many first ones of a tenant; all others are as they were
abbrev pub files_without : List ℕ → ℕ → Disk → Files
files_without tenant count d = without_files (take count (owned tenant d)) d.files

-- So it is where the store is honest.
abbrev pub HasLost : List ℕ → ℕ → Disk → Disk → Type 0
HasLost tenant count old new = new.honest → new.files ≡ files_without tenant count old
