-- The parts of a tenant on a shelf: its catalog over a meta log, and its partitions.
use Rattle.std.specs.Prelude.{◌≡◌, ◌≤◌, ◌<◌, ◌+◌, ◌^◌, ◌⊎◌, ℕ, ℤ, pos, List, Option, Some, None, nat_lt, string_bytes, if◌then◌else◌, max}
use Rattle.std.specs.Ordering.{nat_cmp}
use Rattle.std.specs.Map.{lookup}
use Rattle.std.specs.BTreeMap.{is_at}
use Rattle.kb_store.specs.Disk.{Disk, Table, Files}
use Rattle.kb_log.specs.OnShelf.{Identity, Log}
use Rattle.kb_log.specs.Shelf.{Shelved}
use Rattle.kb_batch.specs.Batch.{natural}
use Rattle.kb_topics.specs.Known.{Known, PartitionState, partition_at}
use Rattle.kb_topics.specs.MetaLog.{IsFoldOf}
use Rattle.kb_topics.specs.Catalog.{known, meta_log, catalog_identity}
use Rattle.kb_tenant_state.specs.Partitions.{Entries, Owned, AreSound, AreExact, AreTimed, AreStarted, AreNamed, Agree, logs_of, partition_identity, places_of, IsUnmade}
use Rattle.kb_tenant_state.specs.Scene.{Scene, IsGivenUp}
use Rattle.kb_topics.specs.declared.fault.CatalogFault.{CatalogFault}
use Rattle.kb_topics.specs.declared.fault.CatalogFault.TheVariants as catalog
use Rattle.kb_tenant_state.specs.declared.fault.PartitionFault.{PartitionFault}
use Rattle.kb_tenant_state.specs.declared.fault.PartitionFault.TheVariants as partition
use Rattle.kb_tenant_state.specs.RetentionTime.{AreAllKept}
use Rattle.kb_tenant_state.specs.Stored.{offsets_in, stored_in, texts_in, up_to_end, IsTold}
use Rattle.kb_tenant_state.specs.Tied.{counted, partition_count}
use Rattle.kb_tenant_state.specs.World.{World}
use Rattle.kb_tenant_state.specs.declared.parts.Parts.{Parts}
use Rattle.kb_tenant_state.specs.Counts.{END}

-- the meta log
abbrev pub meta : {L : Type 0} → (L → Log) → Parts L → Log
meta log p = log (meta_log p.catalog)

abbrev pub entries : {L : Type 0} → Parts L → Entries L
entries p = p.partitions.topics.entries

-- the files of the meta log and of the partitions' logs
abbrev pub Owns : {L : Type 0} → (L → Log) → Parts L → ℕ → Type 0
Owns log p file = (meta log p).owns file ⊎ Owned log (entries p) file

-- A generation of a catalog that was begun: a later one will have a greater number, the next file's, which is at least 1.
abbrev pub IsBegun : ℤ → ℕ → Type 0
IsBegun generation next = natural generation < max 1 next

-- Each log is sound and the tenant's own, the meta log in a generation that was begun, and no file is of two logs. No instance that is still
-- to be given out has partitions, and no topic has more than 64. Each topic has as many partitions as the catalog says, under its
-- instance, and there are no others. The committed offsets are counted, and the bytes of their texts.
pub record IsSound {L : Type 0} (log : L → Log) (p : Parts L) (table : Table) (next : ℕ) : Type 0 where
  pub catalog : (meta log p).sound table next
  pub logs : AreSound log (entries p) table next
  pub apart : (file : ℕ) → (meta log p).owns file → Owned log (entries p) file → ⊥
  pub few : (known p.catalog).creates < 2 ^ 63
  pub unmade : (i : ℕ) → (known p.catalog).creates ≤ i → IsUnmade i (entries p)
  pub small : (i count : ℕ) → lookup (is_at (nat_cmp i)) (places_of (entries p)) ≡ Some count → count ≤ 64
  pub tied : places_of (entries p) ≡ counted partition_count (known p.catalog).topics
  pub catalog_named : (meta log p).identity ≡ catalog_identity (string_bytes p.tenant) (meta log p).identity.generation p.segment_bytes
  pub logs_named : AreNamed log (string_bytes p.tenant) p.segment_bytes (entries p)
  pub begun : IsBegun (meta log p).identity.generation next
  pub offsets : p.offsets ≡ up_to_end (offsets_in (known p.catalog))
  pub texts : p.texts ≡ up_to_end (texts_in (known p.catalog))

-- It is the log of a partition of a topic that is gone: its instance was given out, and none has partitions under it.
pub record IsOfGone {L : Type 0} (tenant : List ℕ) (size creates : ℕ) (es : Entries L) (who : Identity) : Type 0 where
  pub instance : ℕ
  pub number : ℕ
  pub named : who ≡ partition_identity tenant instance number size
  pub given_out : instance < creates
  pub gone : IsUnmade instance es

-- It is a catalog's log, of a generation below the one in use.
pub record IsOfFormer (tenant : List ℕ) (size : ℕ) (in_use : ℤ) (who : Identity) : Type 0 where
  pub generation : ℤ
  pub named : who ≡ catalog_identity tenant generation size
  pub below : natural generation < natural in_use

-- None of the tenant's logs is of that identity, nor will one be.
abbrev pub IsPast : {L : Type 0} → (L → Log) → Parts L → Identity → Type 0
IsPast log p who =
    IsOfGone (string_bytes p.tenant) p.segment_bytes (known p.catalog).creates (entries p) who
    ⊎ IsOfFormer (string_bytes p.tenant) p.segment_bytes (meta log p).identity.generation who

-- what the tenant sees
abbrev pub world_of : {L : Type 0} → (L → Log) → Parts L → Files → World
world_of log p files = record { known = known p.catalog; logs = logs_of log (entries p) files }

-- the start that is recorded of a partition, 0 where there is none
abbrev pub start_said : Option PartitionState → ℕ
start_said None = 0
start_said (Some p) = natural p.start

abbrev pub recorded_start : Known → ℕ → ℕ → ℕ
recorded_start k i p = start_said (partition_at k (pos i) (pos p))

-- Each log agrees with its files, and would start where it does if it were opened from them again; the catalog is what its meta log
-- comes to, by the generation that the log is of; up to a clock no partition has anything to drop; and what is known of the bytes of all
-- batches is right.
pub record Agrees {L : Type 0} (log : L → Log) (p : Parts L) (files : Files) : Type 0 where
  pub catalog : (meta log p).agrees files
  pub fold : IsFoldOf (natural (meta log p).identity.generation) ((meta log p).batches files) (known p.catalog)
  pub logs : Agree log (entries p) files
  pub started : AreStarted log (recorded_start (known p.catalog)) (entries p)
  pub meta_started : (meta log p).resumes 0
  pub until : AreAllKept p.next_retention_time (world_of log p files)
  pub stored : IsTold p.stored (up_to_end (stored_in (world_of log p files)))

-- whose the parts are, what the tenant sees, how many refusals were counted for it, how many commands its meta log has recorded, which is
-- where that log ends, and of which generation that log is
pub record Seen : Type 0 where
  pub tenant : List ℕ
  pub world : World
  pub refusals : ℕ
  pub commands : ℕ
  pub generation : ℕ

-- the parts with any disk and next file number
abbrev pub scene_on : {L : Type 0} → (L → Log) → Parts L → Disk → ℕ → Scene Seen
scene_on log p d next = record {
  owns = Owns log p;
  sound = IsSound log p d.table next;
  exact = (meta log p).exact d.table × AreExact log (entries p) d.table;
  timed = AreTimed log (entries p);
  agrees = Agrees log p d.files;
  wrote = IsGivenUp log (string_bytes p.tenant) (IsPast log p);
  disk = d;
  next = next;
  state = record {
    tenant = string_bytes p.tenant;
    world = world_of log p d.files;
    refusals = p.refusals;
    commands = (meta log p).end;
    generation = natural (meta log p).identity.generation;
  };
}

-- the parts and their shelf at one moment
abbrev pub scene : {L S : Type 0} → (L → Log) → (S → Disk) → Parts L → Shelved S → Scene Seen
scene log disk p shelf = scene_on log p (disk shelf.store) shelf.next

-- one refusal more is counted
abbrev pub refused : {L : Type 0} → Parts L → Parts L
refused p = record p { refusals = if nat_lt p.refusals END then p.refusals + 1 else p.refusals }

-- the count of refusals is at least that
abbrev pub raised : {L : Type 0} → Parts L → ℕ → Parts L
raised p count = record p { refusals = max p.refusals count }

-- after a partition's fault: one that memory or the store has is counted
abbrev pub counted_for : {L : Type 0} → PartitionFault → Parts L → Parts L
counted_for partition.Store p = refused p
counted_for partition.Memory p = refused p
counted_for _ p = p

-- after a fault of the catalog: one that memory or the store has is counted, and a meta log that is full
abbrev pub counted_for_catalog : {L : Type 0} → CatalogFault → Parts L → Parts L
counted_for_catalog catalog.Full p = refused p
counted_for_catalog catalog.Store p = refused p
counted_for_catalog catalog.Memory p = refused p
counted_for_catalog _ p = p
