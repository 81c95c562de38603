-- A catalog and partitions that are there, before they are a tenant's parts.
use Rattle.std.specs.Prelude.{◌≡◌, ◌≤◌, ◌<◌, ◌^◌, ◌⊎◌, ℕ, List, Some}
use Rattle.std.specs.Ordering.{nat_cmp}
use Rattle.std.specs.Map.{lookup}
use Rattle.std.specs.BTreeMap.{is_at}
use Rattle.kb_store.specs.Disk.{Table, Files}
use Rattle.kb_batch.specs.Batch.{natural}
use Rattle.kb_log.specs.OnShelf.{Log}
use Rattle.kb_topics.specs.MetaLog.{IsFoldOf}
use Rattle.kb_topics.specs.Catalog.{known, meta_log, catalog_identity}
use Rattle.kb_topics.specs.declared.catalog.Catalog.{Catalog}
use Rattle.kb_tenant_state.specs.Partitions.{Owned, AreSound, AreStarted, AreNamed, Agree, logs_of, places_of, IsUnmade}
use Rattle.kb_tenant_state.specs.declared.partitions.Partitions.{Partitions}
use Rattle.kb_tenant_state.specs.Parts.{IsBegun, recorded_start}
use Rattle.kb_tenant_state.specs.Tied.{counted, partition_count}
use Rattle.kb_tenant_state.specs.World.{World}

-- a file of the meta log or of a partition's log
abbrev pub IsOfEither : {L : Type 0} → (L → Log) → Catalog L → Partitions L → ℕ → Type 0
IsOfEither log c ps file = (log (meta_log c)).owns file ⊎ Owned log ps.topics.entries file

-- what the tenant sees
abbrev pub restored_world : {L : Type 0} → (L → Log) → Catalog L → Partitions L → Files → World
restored_world log c ps files = record { known = known c; logs = logs_of log ps.topics.entries files }

-- Each log is sound and the tenant's own, the meta log in a generation that was begun, with files of so many bytes, and no file is of two
-- logs. No instance that is still to be given out has partitions, and no topic has more than 64. Each topic has as many partitions as
-- the catalog says, under its instance, and there are no others.
pub record AreFitting {L : Type 0} (log : L
    → Log) (tenant : List ℕ) (size : ℕ) (c : Catalog L) (ps : Partitions L) (table : Table) (next : ℕ) : Type 0 where
  pub catalog : (log (meta_log c)).sound table next
  pub logs : AreSound log ps.topics.entries table next
  pub apart : (file : ℕ) → (log (meta_log c)).owns file → Owned log ps.topics.entries file → ⊥
  pub few : (known c).creates < 2 ^ 63
  pub unmade : (i : ℕ) → (known c).creates ≤ i → IsUnmade i ps.topics.entries
  pub small : (i count : ℕ) → lookup (is_at (nat_cmp i)) (places_of ps.topics.entries) ≡ Some count → count ≤ 64
  pub tied : places_of ps.topics.entries ≡ counted partition_count (known c).topics
  pub catalog_named : (log (meta_log c)).identity ≡ catalog_identity tenant (log (meta_log c)).identity.generation size
  pub logs_named : AreNamed log tenant size ps.topics.entries
  pub begun : IsBegun (log (meta_log c)).identity.generation next

-- Each log agrees with its files, and would start where it does if it were opened from them again; and the catalog is what its meta
-- log comes to.
pub record DoAgree {L : Type 0} (log : L → Log) (c : Catalog L) (ps : Partitions L) (files : Files) : Type 0 where
  pub catalog : (log (meta_log c)).agrees files
  pub fold : IsFoldOf (natural (log (meta_log c)).identity.generation) ((log (meta_log c)).batches files) (known c)
  pub logs : Agree log ps.topics.entries files
  pub started : AreStarted log (recorded_start (known c)) ps.topics.entries
  pub meta_started : (log (meta_log c)).resumes 0
