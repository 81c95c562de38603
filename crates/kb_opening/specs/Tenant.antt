-- A tenant, opened from the files that a directory has of it.
use Rattle.std.specs.Prelude.{◌≡◌, ◌≢◌, ◌≤◌, ◌<◌, ◌+◌, ◌^◌, ◌⊎◌, ◌++◌, ℕ, max, pos, nat_eq, List, [], Some, None, IsSome, IsPermutation}
use Rattle.std.specs.List.{All, Contains, IsDistinct}
use Rattle.kb_store.specs.Disk.{Disk, Files, IsThere}
use Rattle.kb_batch.specs.Batch.{natural}
use Rattle.kb_log.specs.OnShelf.{Identity}
use Rattle.kb_segment_log.specs.SegmentLog.{segment_log, AreNamed}
use Rattle.kb_segment_log.specs.Chain.{AreReadable, LosesNothing}
use Rattle.kb_segment_log.specs.declared.log.SegmentLog.{SegmentLog}
use Rattle.kb_topics.specs.Catalog.{known, catalog_identity}
use Rattle.kb_topics.specs.Known.{Known, PartitionState, partition_at}
use Rattle.kb_tenant_state.specs.Partitions.{logs_of, partition_identity}
use Rattle.kb_tenant_state.specs.Parts.{Agrees, entries, meta}
use Rattle.kb_tenant_state.specs.declared.parts.Parts.{Parts}
use Rattle.kb_opening.specs.Opened.{Owners, ComesToKnown, HasLogs, IsOpened}
use Rattle.kb_opening.specs.Directory.{all_files, files_at, HasFiles}
use Rattle.kb_opening.specs.declared.owner.Owner.{Owner}
use Rattle.kb_opening.specs.declared.owner.Owner.TheVariants.{Catalog, Partition}
use Rattle.kb_opening.specs.declared.directory.Directory.{Directory}

-- the start that a catalog recorded of a partition
abbrev pub recorded_start : PartitionState → ℕ
recorded_start p = natural p.start

-- the files of a tenant, by its logs
abbrev pub owners_in : Directory → ℕ → Owners
owners_in d t = record { catalog = λ g. files_at (Catalog t g) d; partition = λ i p. files_at (Partition t i p) d }

-- whose log an owner's is
abbrev pub tenant_in : Owner → ℕ
tenant_in (Catalog t g) = t
tenant_in (Partition t i p) = t

-- the file is one of a tenant's
pub record IsOfTenant (d : Directory) (t file : ℕ) : Type 0 where
  pub owner : Owner
  pub mine : tenant_in owner ≡ t
  pub has : Contains (files_at owner d) file

-- It is of a partition of a tenant's.
pub record IsOfPartition (d : Directory) (t file : ℕ) : Type 0 where
  pub instance : ℕ
  pub number : ℕ
  pub has : Contains (files_at (Partition t instance number) d) file

-- It is of a generation of the tenant's catalog below one.
pub record IsOfOlder (d : Directory) (t generation file : ℕ) : Type 0 where
  pub older : ℕ
  pub below : older < generation
  pub has : Contains (files_at (Catalog t older) d) file

-- It is of that generation of the tenant's catalog, or of a partition of the tenant's.
abbrev pub IsOfUse : Directory → ℕ → ℕ → ℕ → Type 0
IsOfUse d t generation file = Contains (files_at (Catalog t generation) d) file ⊎ IsOfPartition d t file

-- Each file of a directory is there and has a number that was given out, and none stands twice.
pub record AreListed (d : Directory) (disk : Disk) (next : ℕ) : Type 0 where
  pub there : All (λ n. IsThere disk n) (all_files d)
  pub given_out : All (λ n. n < next) (all_files d)
  pub once : IsDistinct nat_eq (all_files d)

-- Each generation above 0 of a tenant's catalog that has files is below a number.
abbrev pub AreNumberedBelow : Directory → ℕ → ℕ → Type 0
AreNumberedBelow d t next = (g : ℕ) → 0 < g → next ≤ g → g < 2 ^ 63 → files_at (Catalog t g) d ≡ []

-- The next file number is as it was, or was raised, to 2^63 at most.
pub record RaisesNext (old new : ℕ) : Type 0 where
  pub later : old ≤ new
  pub room : new ≤ max old (2 ^ 63)

-- It was raised above each generation above 0 of a tenant's catalog that has files, where it was not above them, and no further.
pub record RaisesAbove (d : Directory) (t old new : ℕ) : Type 0 where
  pub raised : RaisesNext old new
  pub above : AreNumberedBelow d t new
  pub least : (new ≡ old) ⊎ ((g : ℕ) × (new ≡ g + 1) × HasFiles d (Catalog t g))

-- A generation that a header may say, and that was begun.
pub record MayBeOpened (generation next : ℕ) : Type 0 where
  pub small : generation < 2 ^ 63
  pub begun : generation < max 1 next

-- whose log an owner's is, of a tenant of that name
abbrev pub identity_in : List ℕ → ℕ → Owner → Identity
identity_in name size (Catalog t g) = catalog_identity name (pos g) size
identity_in name size (Partition t i p) = partition_identity name i p size

-- The header of each file of a tenant's catalog is readable, of whatever generation.
abbrev pub AreCatalogsReadable : Files → Directory → ℕ → Type 0
AreCatalogsReadable files d t = (g : ℕ) → AreReadable files (files_at (Catalog t g) d)

-- The header of each file of a tenant names the log that it is of.
abbrev pub AreOwnNamed : List ℕ → ℕ → ℕ → Files → Directory → Type 0
AreOwnNamed name size t files d = (o : Owner) → tenant_in o ≡ t → AreNamed (identity_in name size o) files (files_at o d)

-- the owner is the tenant's catalog, of a generation up to the one in use, or a partition that its topics have
abbrev pub IsTaken : ℕ → ℕ → Known → Owner → Type 0
IsTaken t generation k (Catalog u g) = (u ≡ t) × (g ≤ generation)
IsTaken t generation k (Partition u i p) = (u ≡ t) × IsSome (partition_at k (pos i) (pos p))

-- Of a catalog those files were taken out that are of a generation below one; all others stay.
pub record TakesOlder (t generation : ℕ) (old new : Directory) : Type 0 where
  pub older : (g : ℕ) → g < generation → files_at (Catalog t g) new ≡ []
  pub others : (o : Owner) → ((g : ℕ) → g < generation → o ≢ Catalog t g) → files_at o new ≡ files_at o old
  pub strays : new.strays.items ≡ old.strays.items

-- A tenant's files were taken out, but for those of generations above the one in use, and of partitions that its topics have not; the
-- files of other tenants stay.
pub record TakesTenant (t generation : ℕ) (k : Known) (old new : Directory) : Type 0 where
  pub catalog : (g : ℕ) → g ≤ generation → files_at (Catalog t g) new ≡ []
  pub newer : (g : ℕ) → generation < g → files_at (Catalog t g) new ≡ files_at (Catalog t g) old
  pub known : (i p : ℕ) → IsSome (partition_at k (pos i) (pos p)) → files_at (Partition t i p) new ≡ []
  pub unknown : (i p : ℕ) → partition_at k (pos i) (pos p) ≡ None → files_at (Partition t i p) new ≡ files_at (Partition t i p) old
  pub others : (o : Owner) → tenant_in o ≢ t → files_at o new ≡ files_at o old
  pub strays : new.strays.items ≡ old.strays.items

-- The files of a generation in use and of the partitions that its topics have were taken out; all others stay.
pub record TakesUse (t generation : ℕ) (k : Known) (old new : Directory) : Type 0 where
  pub catalog : files_at (Catalog t generation) new ≡ []
  pub catalogs : (g : ℕ) → g ≢ generation → files_at (Catalog t g) new ≡ files_at (Catalog t g) old
  pub known : (i p : ℕ) → IsSome (partition_at k (pos i) (pos p)) → files_at (Partition t i p) new ≡ []
  pub unknown : (i p : ℕ) → partition_at k (pos i) (pos p) ≡ None → files_at (Partition t i p) new ≡ files_at (Partition t i p) old
  pub others : (o : Owner) → tenant_in o ≢ t → files_at o new ≡ files_at o old
  pub strays : new.strays.items ≡ old.strays.items

-- None of them is left.
pub record AreGone (t generation : ℕ) (k : Known) (old new : Directory) : Type 0 where
  pub catalog : (file : ℕ) → Contains (files_at (Catalog t generation) old) file → Contains (all_files new) file → ⊥
  pub known : (i p : ℕ) → IsSome (partition_at k (pos i) (pos p)) → (file : ℕ) → Contains (files_at (Partition t i p) old) file
      → Contains (all_files new) file → ⊥

-- some files were taken out
pub record TakesSome (old new : Directory) : Type 0 where
  pub taken : List ℕ
  pub all : IsPermutation (all_files old) (taken ++ all_files new)

-- The parts of a tenant that has what a generation of its files came to, as they were; they agree with what the files are now.
pub record IsTenantAt (files : Files) (owners : Owners) (generation : ℕ) (parts : Parts SegmentLog) (now : Files) : Type 0 where
  pub agrees : Agrees segment_log parts now
  pub whole : ComesToKnown files (owners.catalog generation) generation (known parts.catalog)
  pub has : HasLogs files owners (known parts.catalog) (logs_of segment_log (entries parts) now)

-- The parts of a tenant that has what its files came to, as they were; they agree with what the files are now.
pub record IsTenantOf (files : Files) (owners : Owners) (parts : Parts SegmentLog) (now : Files) : Type 0 where
  pub agrees : Agrees segment_log parts now
  pub opened : IsOpened files owners (known parts.catalog) (logs_of segment_log (entries parts) now)

-- the generation of a tenant's catalog that its parts have
abbrev pub generation_of : Parts SegmentLog → ℕ
generation_of parts = natural (meta segment_log parts).identity.generation

-- Of no partition that a tenant's topics have anything is lost, where each is opened from the start that the catalog recorded.
abbrev pub PartitionsLoseNothing : ℕ → Known → Directory → Disk → Disk → Type 0
PartitionsLoseNothing t k d old new = (i p : ℕ) (part : PartitionState) → partition_at k (pos i) (pos p) ≡ Some part
    → LosesNothing (files_at (Partition t i p) d) (recorded_start part) old new
