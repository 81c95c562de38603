-- The files of a tenant, and a copy of them behind the files of another store.
use Rattle.std.specs.Prelude.{◌≡◌, ℕ, suc, max, Bool, false, List, [], ◌∷◌, map, filter, Option, Some, None, bytes_eq}
use Rattle.std.specs.FinMap.{get, insert, keys}
use Rattle.kb_store.specs.Disk.{Disk, Files, IsThere, bytes_of}
use Rattle.kb_log.specs.Shelf.{one_above}
use Rattle.kb_segment.specs.Header.{Header, header_in}

-- ---- whose a file is

abbrev pub names : List ℕ → Option Header → Bool
names tenant None = false
names tenant (Some h) = bytes_eq h.tenant tenant

-- a file is a tenant's where its header can be read and names that tenant
abbrev pub is_owned : List ℕ → Disk → ℕ → Bool
is_owned tenant d file = names tenant (header_in (bytes_of d file))

-- the numbers of a tenant's files, rising
abbrev pub owned : List ℕ → Disk → List ℕ
owned tenant d = filter (is_owned tenant d) (keys d.table)

-- ---- where a copy begins

-- Behind the files of both stores. A generation of a catalog has the number of a file that was made for it, so a copy stands behind the
-- generations that it brings, too, and the next one gets a greater number.
abbrev pub first_number : Disk → Disk → ℕ
first_number from to = max (one_above (keys from.table)) (one_above (keys to.table))

-- ---- the copy

-- files with these added, under the numbers from one on
unfoldable pub with_files_from : ℕ → List (List ℕ) → Files → Files
with_files_from n [] f = f
with_files_from n (b ∷ bs) f = with_files_from (suc n) bs (insert f n b)

-- the files of a store with a tenant's files of another copied behind them, in order, byte for byte
abbrev pub copied : List ℕ → Disk → Disk → Files
copied tenant from to = with_files_from (first_number from to) (map (bytes_of from) (owned tenant from)) to.files

-- Where it is honest a store has each file that it had, as it was.
pub record KeepsFiles (old new : Disk) : Type 0 where
  pub honest : new.honest → old.honest
  pub files : new.honest → (file : ℕ) → IsThere old file → get new.files file ≡ get old.files file

-- No other file than that one changes, nor is there another one more.
pub record IsAlone (number : ℕ) (old new : Disk) : Type 0 where
  pub honest : new.honest → old.honest
  pub table : (file : ℕ) → (file ≡ number → ⊥) → get new.table file ≡ get old.table file
  pub files : new.honest → (file : ℕ) → (file ≡ number → ⊥) → get new.files file ≡ get old.files file
