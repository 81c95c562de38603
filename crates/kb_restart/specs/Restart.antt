-- What a broker has that opens with the files of its store.
use Rattle.std.specs.Prelude.{◌≡◌, ◌≤◌, ◌<◌, ◌^◌, ◌⊎◌, ℕ, pos, List, Some, None, length, map, slice_get, string_bytes}
use Rattle.std.specs.FinMap.{keys}
use Rattle.std.specs.List.{All, Contains, zip}
use Rattle.kb_coordinator.specs.Groups.{none}
use Rattle.kb_store.specs.Disk.{Disk, Files, Grew}
use Rattle.kb_store.specs.declared.fault.StoreFault.{StoreFault}
use Rattle.kb_store.specs.declared.fault.StoreFault.TheVariants as store_faults
use Rattle.kb_log.specs.Shelf.{one_above}
use Rattle.kb_log.specs.declared.fault.LogFault.{LogFault}
use Rattle.kb_log.specs.declared.fault.LogFault.TheVariants as log_faults
use Rattle.kb_segment_log.specs.SegmentLog.{segment_log, Clears}
use Rattle.kb_segment_log.specs.declared.log.SegmentLog.{SegmentLog}
use Rattle.kb_topics.specs.Catalog.{known}
use Rattle.kb_topics.specs.Known.{partition_at}
use Rattle.kb_tenant_state.specs.Partitions.{AreExact}
use Rattle.kb_tenant_state.specs.Parts.{IsSound, Owns, entries, meta}
use Rattle.kb_tenant_state.specs.declared.parts.Parts.{Parts}
use Rattle.kb_tenant_api.specs.Hosted.{Kept, TenantState, kept_of, names_of}
use Rattle.kb_tenants.specs.Tenants.{restored_tenant, IsOfSome}
use Rattle.kb_opening.specs.Opened.{Owners, IsInUse, IsOpened, IsOnly, TenantLosesNothing}
use Rattle.kb_opening.specs.Owners.{catalog_of, partition_of, strays_of}
use Rattle.kb_opening.specs.Directory.{all_files, files_at}
use Rattle.kb_opening.specs.Settled.{AreAccounted}
use Rattle.kb_opening.specs.Tenant.{owners_in, generation_of, tenant_in, AreListed, AreNumberedBelow, AreOwnNamed}
use Rattle.kb_opening.specs.Tenant.{IsOfTenant, IsTaken, IsTenantOf}
use Rattle.kb_opening.specs.declared.directory.Directory.{Directory}
use Rattle.kb_opening.specs.declared.owner.Owner.{Owner}
use Rattle.kb_opening.specs.declared.owner.Owner.TheVariants as owners
use Rattle.kb_broker.specs.declared.opening.OpenFault.{OpenFault}
use Rattle.kb_broker.specs.declared.opening.OpenFault.TheVariants as faults

-- of the files of some numbers, those of a tenant, by its logs
abbrev pub owners_of : Files → List ℕ → List ℕ → Owners
owners_of files numbers name = record {
  catalog = λ g. catalog_of files name g numbers;
  partition = λ i p. partition_of files name i p numbers;
}

-- A tenant keeps what its files come to, and has no groups.
pub record IsReopened (files : Files) (numbers name : List ℕ) (kept : Kept) : Type 0 where
  pub opened : IsOpened files (owners_of files numbers name) kept.world.known kept.world.logs
  pub groups : kept.groups ≡ none

-- So does each, at the place of its name.
pub record AreReopened (files : Files) (numbers : List ℕ) (names : List (List ℕ)) (ts : List TenantState) : Type 0 where
  pub names_are : names_of ts ≡ names
  pub each : (t : ℕ) (name : List ℕ) → slice_get names t ≡ Some name → IsReopened files numbers name (kept_of ts t)

-- Each world that a tenant's files come to is the one that it keeps.
abbrev pub AreOnly : Files → List ℕ → List (List ℕ) → List TenantState → Type 0
AreOnly files numbers names ts = (t : ℕ) (name : List ℕ) → slice_get names t ≡ Some name
    → IsOnly files (owners_of files numbers name) (kept_of ts t).world.known (kept_of ts t).world.logs

abbrev pub have_nothing_refused : List TenantState → Type 0
have_nothing_refused ts = All (λ (x : TenantState). x.refusals ≡ 0) ts

-- the file is of a partition that its tenant's topics have not
pub record IsUnknown (files : Files) (numbers : List ℕ) (names : List (List ℕ)) (ts : List TenantState) (file : ℕ) : Type 0 where
  pub tenant : ℕ
  pub name : List ℕ
  pub instance : ℕ
  pub partition : ℕ
  pub named : slice_get names tenant ≡ Some name
  pub has : Contains (partition_of files name instance partition numbers) file
  pub unknown : partition_at (kept_of ts tenant).world.known (pos instance) (pos partition) ≡ None

-- the file is of a generation of a tenant's catalog above the one in use, which comes to what the tenant knows
pub record IsOfLater (files : Files) (numbers : List ℕ) (names : List (List ℕ)) (ts : List TenantState) (file : ℕ) : Type 0 where
  pub tenant : ℕ
  pub name : List ℕ
  pub generation : ℕ
  pub later : ℕ
  pub named : slice_get names tenant ≡ Some name
  pub in_use : IsInUse files (owners_of files numbers name) generation (kept_of ts tenant).world.known
  pub above : generation < later
  pub has : Contains (catalog_of files name later numbers) file

-- The file is of no log: its header is unreadable, or of a tenant that is not named; or its tenant has no such partition, or a catalog
-- of an earlier generation.
abbrev pub IsStray : Files → List ℕ → List (List ℕ) → List TenantState → ℕ → Type 0
IsStray files numbers names ts file =
    Contains (strays_of files names numbers) file ⊎ IsUnknown files numbers names ts file ⊎ IsOfLater files numbers names ts file

-- the file is one of a named tenant's
pub record IsOfLog (files : Files) (numbers : List ℕ) (names : List (List ℕ)) (file : ℕ) : Type 0 where
  pub listed : Contains numbers file
  pub no_stray : Contains (strays_of files names numbers) file → ⊥

-- `Store` is answered where the store is honest only where its failures grew, or no file number is left
abbrev pub BlamesShelf : Disk → OpenFault → Disk → Type 0
BlamesShelf old fault new = new.honest → fault ≡ faults.Store → Grew old.failures new.failures ⊎ (2 ^ 64 ≤ one_above (keys old.table))

-- what is answered for a refusal of the store
abbrev pub store_fault : StoreFault → OpenFault
store_fault store_faults.Device = faults.Store
store_fault store_faults.Memory = faults.Memory

-- Opened again, the files come to what they came to.
abbrev pub ComeToTheSame : List (List ℕ) → Disk → Disk → Type 0
ComeToTheSame names old new =
    new.honest → (ts : List TenantState) → AreReopened old.files (keys old.table) names ts → AreReopened new.files (keys new.table) names ts

-- ---- the tenants, one after another

-- what is answered for a refusal of a log
abbrev pub open_fault : LogFault → OpenFault
open_fault log_faults.Memory = faults.Memory
open_fault _ = faults.Store

-- the file is of one of the first tenants
pub record IsOfFirst (d : Directory) (count file : ℕ) : Type 0 where
  pub tenant : ℕ
  pub first : tenant < count
  pub has : IsOfTenant d tenant file

-- The parts of a tenant, opened from the files that a directory has of it, as they were; of them the directory has those alone now
-- that are of partitions which its topics have not, or of a generation above the one in use; and nothing but its batches is in the
-- files of a log. The next file number is above each generation that it had files of.
pub record IsRestored (old : Disk) (had : Directory) (tenant : ℕ) (parts : Parts SegmentLog) (new : Disk) (next : ℕ)
    (has : Directory) : Type 0 where
  pub sound : IsSound segment_log parts new.table next
  pub owned : (file : ℕ) → Owns segment_log parts file → IsOfTenant had tenant file
  pub opened : new.honest → AreOwnNamed (string_bytes parts.tenant) parts.segment_bytes tenant old.files had
      → IsTenantOf old.files (owners_in had tenant) parts new.files
  pub in_use : new.honest → AreOwnNamed (string_bytes parts.tenant) parts.segment_bytes tenant old.files had
      → IsInUse old.files (owners_in had tenant) (generation_of parts) (known parts.catalog)
  pub numbered : AreNumberedBelow had tenant next
  pub refusals : parts.refusals ≡ 0
  pub gone : (o : Owner) → IsTaken tenant (generation_of parts) (known parts.catalog) o → (file : ℕ) → Contains (files_at o had) file
      → Contains (all_files has) file → ⊥
  pub unknown : (i p : ℕ) → partition_at (known parts.catalog) (pos i) (pos p) ≡ None
      → files_at (owners.Partition tenant i p) has ≡ files_at (owners.Partition tenant i p) had
  pub newer : (g : ℕ) → generation_of parts < g → files_at (owners.Catalog tenant g) has ≡ files_at (owners.Catalog tenant g) had
  pub meta_exact : (meta segment_log parts).exact new.table
  pub exact : AreExact segment_log (entries parts) new.table
  pub apart : (file : ℕ) → Owns segment_log parts file → Contains (all_files has) file → ⊥

-- The header of each file of a named tenant names the log that it is of.
abbrev pub AreOwnedNamed : List (List ℕ) → ℕ → Files → Directory → Type 0
AreOwnedNamed names size files d = (t : ℕ) (name : List ℕ) → slice_get names t ≡ Some name → AreOwnNamed name size t files d

-- the names of some tenants, by their parts
abbrev pub names_in : List (Parts SegmentLog) → List (List ℕ)
names_in tenants = map (λ p. string_bytes p.tenant) tenants

-- So are those of the first tenants. Of the others the directory has what it had, and none of the files that it has was changed. Each
-- file that stood in it is of one of them, or is gone, or stands there still.
pub record AreRestored (old : Disk) (had : Directory) (tenants : List (Parts SegmentLog)) (new : Disk) (next : ℕ)
    (has : Directory) : Type 0 where
  pub each : (t : ℕ) (parts : Parts SegmentLog) → slice_get tenants t ≡ Some parts → IsRestored old had t parts new next has
  pub others : (o : Owner) → length tenants ≤ tenant_in o → files_at o has ≡ files_at o had
  pub strays : has.strays.items ≡ had.strays.items
  pub fewer : (file : ℕ) → Contains (all_files has) file → Contains (all_files had) file
  pub listed : AreListed has new next
  pub clears : Clears (IsOfFirst had (length tenants)) old new
  pub accounts : AreAccounted had (IsOfSome segment_log tenants) new has

-- Of no tenant anything is lost.
abbrev pub NoneLosesAny : Directory → Disk → Disk → Type 0
NoneLosesAny d old new = (t : ℕ) → TenantLosesNothing (owners_in d t) old new

-- The same of the named tenants, by the headers of the files of these numbers.
abbrev pub NamedLoseNothing : List ℕ → List (List ℕ) → Disk → Disk → Type 0
NamedLoseNothing numbers names old new =
    (t : ℕ) (name : List ℕ) → slice_get names t ≡ Some name → TenantLosesNothing (owners_of old.files numbers name) old new

-- Each has what the files of its name came to, as they were; it agrees with what the files are now.
abbrev pub AreOpened : Files → List ℕ → List (List ℕ) → List (Parts SegmentLog) → Files → Type 0
AreOpened files numbers names tenants now =
    (t : ℕ) (name : List ℕ) (parts : Parts SegmentLog) → slice_get names t ≡ Some name → slice_get tenants t ≡ Some parts
    → IsTenantOf files (owners_of files numbers name) parts now

-- the file is of a partition that its tenant's topics have not
pub record IsOfNone (files : Files) (numbers : List ℕ) (names : List (List ℕ)) (tenants : List (Parts SegmentLog)) (file : ℕ) : Type 0 where
  pub tenant : ℕ
  pub name : List ℕ
  pub parts : Parts SegmentLog
  pub instance : ℕ
  pub partition : ℕ
  pub named : slice_get names tenant ≡ Some name
  pub at : slice_get tenants tenant ≡ Some parts
  pub has : Contains (partition_of files name instance partition numbers) file
  pub unknown : partition_at (known parts.catalog) (pos instance) (pos partition) ≡ None

-- the file is of a generation of its tenant's catalog above the one in use
pub record IsOfNewer (files : Files) (numbers : List ℕ) (names : List (List ℕ)) (tenants : List (Parts SegmentLog)) (file : ℕ) : Type 0 where
  pub tenant : ℕ
  pub name : List ℕ
  pub parts : Parts SegmentLog
  pub generation : ℕ
  pub later : ℕ
  pub named : slice_get names tenant ≡ Some name
  pub at : slice_get tenants tenant ≡ Some parts
  pub in_use : IsInUse files (owners_of files numbers name) generation (known parts.catalog)
  pub above : generation < later
  pub has : Contains (catalog_of files name later numbers) file

-- it is of no log
abbrev pub IsOfNoLog : Files → List ℕ → List (List ℕ) → List (Parts SegmentLog) → ℕ → Type 0
IsOfNoLog files numbers names tenants file =
    Contains (strays_of files names numbers) file ⊎ IsOfNone files numbers names tenants file ⊎ IsOfNewer files numbers names tenants file

-- tenants of those names and parts, where the files are those
abbrev pub tenants_restored : Files → List (List ℕ) → List (Parts SegmentLog) → List TenantState
tenants_restored files names tenants = map (λ e. restored_tenant segment_log files e.0 e.1) (zip names tenants)
