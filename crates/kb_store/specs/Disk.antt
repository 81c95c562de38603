-- What a disk is to those who use it, and how each call takes one disk to the next.
use Rattle.std.specs.Prelude.{◌≡◌, ◌≤◌, ◌<◌, ◌+◌, ◌-◌, ◌^◌, ◌++◌, ◌⊎◌, ℕ, List, [], length, take, unwrap_or, IsSome, option_map, min}
use Rattle.std.specs.Prelude.{Result, IsErrOf}
use Rattle.std.specs.Ordering.{nat_cmp}
use Rattle.std.specs.FinMap.{FinMap, get, insert, remove}
use Rattle.kb_store.specs.declared.fault.StoreFault.{StoreFault}
use Rattle.kb_store.specs.declared.fault.StoreFault.TheVariants.{Device}

-- Numbers and lengths.
abbrev pub Table : Type 0
Table = FinMap nat_cmp ℕ

-- Numbers and bytes.
abbrev pub Files : Type 0
Files = FinMap nat_cmp (List ℕ)

-- A store: the numbers and lengths that it answers, the bytes of its files, whether all its answers so far were those of
-- these files, and how often its device has failed.
pub record Disk : Type 1 where
  pub table : Table
  pub files : Files
  pub honest : Type 0
  pub failures : ℕ

-- ---- its files

abbrev pub IsThere : Disk → ℕ → Type 0
IsThere d file = IsSome (get d.table file)

-- The length of a file, 0 where there is none.
abbrev pub len_of : Disk → ℕ → ℕ
len_of d file = unwrap_or (get d.table file) 0

-- The bytes of a file, none where there is none.
abbrev pub bytes_of : Disk → ℕ → List ℕ
bytes_of d file = unwrap_or (get d.files file) []

-- Where it is honest, the table has the length of each file and no other; and a length fits 64 bits.
pub record IsLawfulDisk (d : Disk) : Type 0 where
  pub lengths : d.honest → (file : ℕ) → get d.table file ≡ option_map length (get d.files file)
  pub fits : (file : ℕ) → len_of d file < 2 ^ 64

-- ---- from one disk to the next

-- The table is that one; and where the disk is honest now it was before, and the files are those.
pub record Becomes (old : Disk) (now : Table) (with : Files) (new : Disk) : Type 0 where
  pub table : new.table ≡ now
  pub honest : new.honest → old.honest
  pub files : new.honest → new.files ≡ with

-- Nothing changes.
abbrev pub Keeps : Disk → Disk → Type 0
Keeps old new = Becomes old old.table old.files new

-- The file is there, and empty.
abbrev pub Creates : Disk → ℕ → Disk → Type 0
Creates old file new = Becomes old (insert old.table file 0) (insert old.files file []) new

-- The file ends with those bytes, behind what it had.
abbrev pub Appends : Disk → ℕ → List ℕ → Disk → Type 0
Appends old file bytes new =
    Becomes old (insert old.table file (len_of old file + length bytes)) (insert old.files file (bytes_of old file ++ bytes)) new

-- The file has its first bytes alone.
abbrev pub Cuts : Disk → ℕ → ℕ → Disk → Type 0
Cuts old file len new = Becomes old (insert old.table file len) (insert old.files file (take len (bytes_of old file))) new

-- The file is gone.
abbrev pub Removes : Disk → ℕ → Disk → Type 0
Removes old file new = Becomes old (remove old.table file) (remove old.files file) new

-- ---- refusals

-- A refused create leaves the file absent or empty.
abbrev pub MayCreate : Disk → ℕ → Disk → Type 0
MayCreate old file new = Keeps old new ⊎ Creates old file new

-- A refused append leaves the old bytes and some front of the new ones, never all of them. Of none nothing changes.
abbrev pub AppendsSome : Disk → ℕ → List ℕ → Disk → Type 0
AppendsSome old file bytes new = (k : ℕ) × (k ≤ length bytes - 1) × Appends old file (take k bytes) new

-- A count rose, or stands at u64's end.
abbrev pub Grew : ℕ → ℕ → Type 0
Grew before now = min (before + 1) (2 ^ 64 - 1) ≤ now

-- Failures do not fall, and `Device` is answered only where they grew.
pub record HasCause {T : Type 0} (old : Disk) (result : Result T StoreFault) (new : Disk) : Type 0 where
  pub later : old.failures ≤ new.failures
  pub device : IsErrOf result Device → Grew old.failures new.failures
