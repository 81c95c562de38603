-- What a loss of power leaves of a tenant's files, and what the tenant has then.
use Rattle.std.specs.Prelude.{◌≡◌, ◌≤◌, ◌<◌, ◌^◌, ◌⊎◌, ℕ, List, pos, nat_eq, Some, slice_get}
use Rattle.std.specs.List.{Contains, IsDistinct}
use Rattle.kb_store.specs.Disk.{Files}
use Rattle.kb_batch.specs.Batch.{natural}
use Rattle.kb_segment_log.specs.Chain.{numbers_in}
use Rattle.kb_topics.specs.declared.command.Command.{Command}
use Rattle.kb_topics.specs.declared.command.Command.TheVariants.{Delete}
use Rattle.kb_topics.specs.Known.{Known, PartitionState, TopicState, topic_at, partition_at}
use Rattle.kb_topics.specs.MetaLog.{IsFoldOf}
use Rattle.kb_tenant_state.specs.Logs.{LogState, Logs, log_at}
use Rattle.kb_opening.specs.Opened.{Owners, ComesToKnown, IsInUse, IsOpened}
use Rattle.kb_opening.specs.Owners.{is_of_catalog, is_of_partition}
use Rattle.kb_loss.specs.Chains.{HasAll, LastsIn}
use Rattle.kb_loss.specs.Known.{GoesOnTo, IsLaterPartition}
use Rattle.kb_loss.specs.Renewed.{BeginsAnew}
use Rattle.kb_loss.specs.Since.{Touched, AreOf, IsWritten}

-- ---- the files

-- What is left of the catalog of a tenant can be read. It had nothing but commands in it; that generation or a later one is found whole;
-- and a later one begins with the snapshot of what was known after more commands.
pub record IsReadAgain {files : Files} {owners : Owners} {k : Known} {logs : Logs} (o : IsOpened files owners k logs) (found : Files)
    (there : Owners) : Type 0 where
  pub commands : IsFoldOf o.generation o.in_use.whole.commands k
  pub generation : ℕ
  pub no_earlier : o.generation ≤ generation
  pub small : generation < 2 ^ 63
  pub known : Known
  pub read : ComesToKnown found (there.catalog generation) generation known
  pub renewed : (g : ℕ) (n : Known) → o.generation < g → g < 2 ^ 63 → (whole : ComesToKnown found (there.catalog g) g n)
      → BeginsAnew k whole.commands

-- No file is of one log twice.
pub record AreOnce (owners : Owners) : Type 0 where
  pub catalog : (g : ℕ) → IsDistinct nat_eq (owners.catalog g)
  pub partition : (i p : ℕ) → IsDistinct nat_eq (owners.partition i p)

-- Of the files of a tenant's catalog none is gone while it is in use; of those of each partition none but first ones, below the start that
-- the catalog has that is found.
pub record FilesLast {files : Files} {owners : Owners} {k : Known} {logs : Logs} (o : IsOpened files owners k logs) (found : Files)
    (there : Owners) (now : Known) : Type 0 where
  pub catalog : IsInUse found there o.generation now → LastsIn o.in_use.whole.chain 0 found (there.catalog o.generation)
  pub partitions : (i p : ℕ) (was is : PartitionState) (at : partition_at k (pos i) (pos p) ≡ Some was)
      → partition_at now (pos i) (pos p) ≡ Some is
      → LastsIn (o.has.each i p was at).2.chain (natural is.start) found (there.partition i p)
  pub once : AreOnce owners
  pub once_there : AreOnce there

-- Those are the files of a tenant's logs, by their headers.
pub record AreOfTenant (files : Files) (name : List ℕ) (owners : Owners) : Type 0 where
  pub catalog : (g : ℕ) → AreOf files (is_of_catalog name g) (owners.catalog g)
  pub partition : (i p : ℕ) → AreOf files (is_of_partition name i p) (owners.partition i p)

-- Each log of a tenant is written in order. A partition's files go only below the start that the catalog has that is found, and the
-- catalog's own files do not go while it is in use.
pub record TenantIsWritten {files : Files} {owners : Owners} {k : Known} {logs : Logs} (o : IsOpened files owners k logs)
    (name : List ℕ) (t : Touched) (waiting : List ℕ) (found : Files) (there : Owners) (now : Known) : Type 0 where
  pub catalog : IsInUse found there o.generation now
      → IsWritten o.in_use.whole.chain (is_of_catalog name o.generation) t waiting 0 found
  pub partitions : (i p : ℕ) (was is : PartitionState) (at : partition_at k (pos i) (pos p) ≡ Some was)
      → partition_at now (pos i) (pos p) ≡ Some is
      → IsWritten (o.has.each i p was at).2.chain (is_of_partition name i p) t waiting (natural is.start) found

-- The chain of each log of a tenant goes through all of its files.
pub record GoesThroughAll {files : Files} {owners : Owners} {k : Known} {logs : Logs} (o : IsOpened files owners k logs) : Type 0 where
  pub catalog : (n : ℕ) → Contains (owners.catalog o.generation) n → Contains (numbers_in o.in_use.whole.chain) n
  pub partitions : (i p : ℕ) (was : PartitionState) (at : partition_at k (pos i) (pos p) ≡ Some was) (n : ℕ)
      → Contains (owners.partition i p) n → Contains (numbers_in (o.has.each i p was at).2.chain) n

-- ---- what the tenant has

-- After some commands a partition is there, later than it was, and from its start on its log has all that it had.
pub record HasLog (commands : List Command) (known : Known) (logs : Logs) (i p : ℕ) (was : PartitionState) (l : LogState) : Type 0 where
  pub part : PartitionState
  pub later : IsLaterPartition commands was part
  pub at : partition_at known (pos i) (pos p) ≡ Some part
  pub log : LogState
  pub has : log_at i p logs ≡ Some log
  pub all : HasAll (natural part.start) l.batches l.end log.batches log.end

-- A tenant's catalog goes on from what it knew. Each partition of a topic that no further command deletes has all that it had, from its
-- start on.
pub record HasWhatWas (known : Known) (logs : Logs) (now : Known) (logs_now : Logs) : Type 0 where
  pub catalog : GoesOnTo known now
  pub partitions : (i p : ℕ) (t : TopicState) (was : PartitionState) (l : LogState) → topic_at i known.topics ≡ Some t
      → slice_get t.partitions p ≡ Some was → log_at i p logs ≡ Some l
      → Contains catalog.commands (Delete t.name) ⊎ HasLog catalog.commands now logs_now i p was l
