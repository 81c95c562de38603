-- What a durable store is to its callers, and what it has noted.
use Rattle.std.specs.Prelude.{◌≡◌, ◌≤◌, ◌+◌, ◌==◌, ◌||◌, ◌&&◌, ◌⊎◌, ℕ, Bool, true, false, not, min, List, [], ◌∷◌, Result, Err}
use Rattle.std.specs.Prelude.{nat_lt}
use Rattle.kb_store.specs.Disk.{Disk, Files}
use Rattle.kb_store.specs.Loss.{Loss, Only, AreOthers}
use Rattle.kb_store.specs.declared.fault.StoreFault.{StoreFault}
use Rattle.kb_store.specs.declared.fault.StoreFault.TheVariants.{Device}
use Rattle.kb_durable.specs.Waiting.{AreThere, without_keys}
use Rattle.kb_durable.specs.declared.torn.Torn.{Torn}

-- ---- bytes of refused appends

abbrev pub is_torn : List Torn → ℕ → Bool
is_torn [] file = false
is_torn (t ∷ ts) file = t.file == file || is_torn ts file

-- a cut of the file to the length does not mend it
abbrev pub stays_torn : ℕ → ℕ → Torn → Bool
stays_torn file len t = not (t.file == file) || nat_lt t.len len

-- ---- the store

-- what callers see of it: the store inside, whether it syncs, whether something was changed since the last sync, the removals that wait,
-- the files with bytes of refused appends, and how many calls it refused itself
pub record Durable (S : Type 0) : Type 0 where
  pub store : S
  pub syncs : Bool
  pub changed : Bool
  pub waiting : List ℕ
  pub torn : List Torn
  pub refused : ℕ

abbrev pub durable : {S : Type 0} → S → Bool → Bool → List ℕ → List Torn → ℕ → Durable S
durable s y c w t r = record { store = s; syncs = y; changed = c; waiting = w; torn = t; refused = r }

-- the disk inside, less the files whose removal waits
abbrev pub disk_left : List ℕ → ℕ → Disk → Disk
disk_left waiting refused d = record {
  table = without_keys waiting d.table;
  files = without_keys waiting d.files;
  honest = d.honest;
  failures = min (d.failures + refused) 18446744073709551615;
}

abbrev pub disk_of : {S : Type 0} → (S → Disk) → Durable S → Disk
disk_of inner s = disk_left s.waiting s.refused (inner s.store)

abbrev pub is_nil : List ℕ → Bool
is_nil [] = true
is_nil (k ∷ ks) = false

-- a sync has something to do
abbrev pub has_changed : {S : Type 0} → Durable S → Bool
has_changed s = s.syncs && (s.changed || not (is_nil s.waiting))

-- one more, short of u64's end
abbrev pub one_more : ℕ → ℕ
one_more n = min (n + 1) 18446744073709551615

-- The files that wait are there. Where nothing was changed since the last sync a loss leaves the files as they are. A store that never
-- syncs takes all for changed.
pub record IsKept (d : Disk) (l : Loss) (syncs changed : Bool) (waiting : List ℕ) (torn : List Torn) : Type 0 where
  pub there : AreThere waiting d.table
  pub synced : changed ≡ false → d.honest → Only d.files l
  pub whole : changed ≡ false → torn ≡ []
  pub never : syncs ≡ false → (waiting ≡ []) × (changed ≡ true)

-- ---- what each call does

-- Nothing is noted.
abbrev pub NotesNothing : {S : Type 0} → Durable S → Durable S → Type 0
NotesNothing old new = new ≡ record old { store = new.store }

-- It is refused, and nothing is done.
pub record IsRefused {S T : Type 0} (old : Durable S) (result : Result T StoreFault) (new : Durable S) : Type 0 where
  pub device : result ≡ Err Device
  pub counted : new ≡ record old { refused = one_more old.refused }

-- At each moment since, a loss could leave what it could before, or all other files as they were.
abbrev pub MakesAlone : ℕ → Disk → Loss → Loss → Type 0
MakesAlone file old before after =
    (t : ℕ) (found : Files) → t ≤ before.moment → after.left_since t found → before.left_since t found ⊎ AreOthers file old.files found
