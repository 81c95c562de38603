-- What a directory says of the files of a store.
use Rattle.std.specs.Prelude.{◌≡◌, ◌≢◌, ◌≤◌, ◌<◌, ℕ, Bool, List, [], ◌∷◌, ◌++◌, map, Option, Some, None, is_none, IsPermutation, slice_get}
use Rattle.std.specs.Prelude.{if◌then◌else◌, IsSome}
use Rattle.std.specs.BTreeMap as tree
use Rattle.std.specs.List.{concat}
use Rattle.std.specs.declared.alloc.Global.{Global}
use Rattle.std.specs.declared.vec.Vec.{Vec}
use Rattle.kb_store.specs.Disk.{Files}
use Rattle.kb_opening.specs.Owners.{catalog_of, partition_of, strays_of, owner_cmp, is_owner}
use Rattle.kb_opening.specs.declared.owner.Owner.{Owner}
use Rattle.kb_opening.specs.declared.owner.Owner.TheVariants.{Catalog, Partition}
use Rattle.kb_opening.specs.declared.directory.Directory.{Directory}

-- ---- its files

abbrev pub items_of : Option (Vec ℕ Global) → List ℕ
items_of None = []
items_of (Some files) = files.items

-- the files of an owner
abbrev pub files_at : Owner → Directory → List ℕ
files_at owner d = items_of (tree.get owner_cmp d.owned owner)

-- those of all owners
abbrev pub owned_in : List (Owner × Vec ℕ Global) → List ℕ
owned_in entries = concat (map (λ e. e.1.items) entries)

-- all files that stand in it, in some order
abbrev pub all_files : Directory → List ℕ
all_files d = owned_in d.owned.entries ++ d.strays.items

-- none
pub record IsEmpty (d : Directory) : Type 0 where
  pub owned : d.owned.entries ≡ []
  pub strays : d.strays.items ≡ []

-- Each named tenant's files stand at its place, of each log as in the list of all numbers; the strays are those of no log.
pub record IsDirectory (files : Files) (names : List (List ℕ)) (numbers : List ℕ) (d : Directory) : Type 0 where
  pub catalogs : (tenant generation : ℕ) (name : List ℕ) → slice_get names tenant ≡ Some name
      → files_at (Catalog tenant generation) d ≡ catalog_of files name generation numbers
  pub partitions : (tenant instance number : ℕ) (name : List ℕ) → slice_get names tenant ≡ Some name
      → files_at (Partition tenant instance number) d ≡ partition_of files name instance number numbers
  pub strays : d.strays.items ≡ strays_of files names numbers

-- Of a tenant's catalog there is no file of a generation above one, up to another.
abbrev pub NoneBetween : Directory → ℕ → ℕ → ℕ → Type 0
NoneBetween d tenant generation most =
    (above : ℕ) → generation < above → above ≤ most → files_at (Catalog tenant above) d ≡ []

-- an owner has files
abbrev pub HasFiles : Directory → Owner → Type 0
HasFiles d owner = IsSome (tree.get owner_cmp d.owned owner)

-- ---- changes

-- a number, or none
abbrev pub only : Bool → ℕ → List ℕ
only b file = if b then file ∷ [] else []

-- A file goes to its owner's, behind those that were read before; where it has none it is a stray.
pub record Assigns (owner : Option Owner) (file : ℕ) (old new : Directory) : Type 0 where
  pub files : (o : Owner) → files_at o new ≡ files_at o old ++ only (is_owner o owner) file
  pub strays : new.strays.items ≡ old.strays.items ++ only (is_none owner) file
  pub all : IsPermutation (file ∷ all_files old) (all_files new)

-- An owner's files were taken out; all others stay.
pub record TakesOut (owner : Owner) (old : Directory) (taken : List ℕ) (new : Directory) : Type 0 where
  pub files : taken ≡ files_at owner old
  pub none : files_at owner new ≡ []
  pub others : (o : Owner) → o ≢ owner → files_at o new ≡ files_at o old
  pub strays : new.strays.items ≡ old.strays.items
  pub all : IsPermutation (all_files old) (taken ++ all_files new)
