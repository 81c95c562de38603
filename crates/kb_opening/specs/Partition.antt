-- The partitions of a topic, opened from the files that are there.
use Rattle.std.specs.Prelude.{◌≡◌, ◌≤◌, ◌<◌, ◌^◌, ◌⊎◌, ℕ, nat_eq, List, Some, slice_get, Result, Err, IsErrOf}
use Rattle.std.specs.List.{All, Contains, IsDistinct}
use Rattle.std.specs.declared.alloc.Global.{Global}
use Rattle.std.specs.declared.vec.Vec.{Vec}
use Rattle.kb_store.specs.Disk.{Disk, Files, IsThere, Grew}
use Rattle.kb_log.specs.declared.fault.LogFault.{LogFault}
use Rattle.kb_log.specs.declared.fault.LogFault.TheVariants as faults
use Rattle.kb_producers.specs.Batches.{kept_all}
use Rattle.kb_segment_log.specs.SegmentLog.{segment_log, AreNamed}
use Rattle.kb_segment_log.specs.Chain.{LosesNothing}
use Rattle.kb_segment_log.specs.declared.log.SegmentLog.{SegmentLog}
use Rattle.kb_tenant_state.specs.Partitions.{log_state, partition_identity}
use Rattle.kb_tenant_state.specs.declared.partition.Partition.{Partition}
use Rattle.kb_opening.specs.Opened.{IsLogOf}

-- ---- one partition

-- Its log is that of some files from a start on, as the files were; it agrees with what they are now, and what is kept of
-- producers is what its batches tell.
pub record IsPartitionOf (files : Files) (numbers : List ℕ) (start : ℕ) (x : Partition SegmentLog) (now : Files) : Type 0 where
  pub agrees : (segment_log x.log).agrees now
  pub told : x.producers.kept ≡ kept_all ((segment_log x.log).batches now)
  pub log : IsLogOf files numbers start (log_state (segment_log x.log) now)

-- Where the store is honest and the files are as was said, the store is blamed only where its failures grew, or no file number is
-- left; and no offset is.
pub record MissesShelf {T : Type 0} (old : Disk) (next : ℕ) (As : Type 0) (result : Result T LogFault) (new : Disk) : Type 0 where
  pub later : old.failures ≤ new.failures
  pub store : new.honest → As → IsErrOf result faults.Store → Grew old.failures new.failures ⊎ (2 ^ 64 ≤ next)
  pub range : result ≡ Err faults.Range → ⊥
  pub full : result ≡ Err faults.Full → ⊥

-- ---- the files of several partitions

-- the numbers of the files of each, in order of partitions
abbrev pub Lists : Type 0
Lists = List (Vec ℕ Global)

-- the file is one of some partition
pub record IsAmong (lists : Lists) (file : ℕ) : Type 0 where
  pub number : ℕ
  pub list : Vec ℕ Global
  pub at : slice_get lists number ≡ Some list
  pub has : Contains list.items file

-- Each file is there and has a number that was given out, and none is of two partitions, or twice of one.
pub record AreGiven (lists : Lists) (disk : Disk) (next : ℕ) : Type 0 where
  pub there : (p : ℕ) (list : Vec ℕ Global) → slice_get lists p ≡ Some list → All (λ n. IsThere disk n) list.items
  pub given_out : (p : ℕ) (list : Vec ℕ Global) → slice_get lists p ≡ Some list → All (λ n. n < next) list.items
  pub once : (p : ℕ) (list : Vec ℕ Global) → slice_get lists p ≡ Some list → IsDistinct nat_eq list.items
  pub apart : (p q : ℕ) (list other : Vec ℕ Global) → slice_get lists p ≡ Some list → slice_get lists q ≡ Some other → (p ≡ q → ⊥)
      → (file : ℕ) → Contains list.items file → Contains other.items file → ⊥

-- The header of each of the files names its partition, of the topic of that instance.
abbrev pub AreAllNamed : List ℕ → ℕ → ℕ → Files → Lists → Type 0
AreAllNamed tenant instance size files lists =
    (p : ℕ) (list : Vec ℕ Global) → slice_get lists p ≡ Some list → AreNamed (partition_identity tenant instance p size) files list.items

-- Each partition is that of its own files from its own start on.
abbrev pub ArePartitionsOf : Files → Lists → List ℕ → List (Partition SegmentLog) → Files → Type 0
ArePartitionsOf files lists starts xs now = (p : ℕ) (x : Partition SegmentLog) (list : Vec ℕ Global) (start : ℕ)
    → slice_get xs p ≡ Some x → slice_get lists p ≡ Some list → slice_get starts p ≡ Some start → IsPartitionOf files list.items start x now

-- Each log is that of the partition of its number, of the topic of that instance.
abbrev pub AreNumbered : List ℕ → ℕ → ℕ → List (Partition SegmentLog) → Type 0
AreNumbered tenant instance size xs =
    (p : ℕ) (x : Partition SegmentLog) → slice_get xs p ≡ Some x → (segment_log x.log).identity ≡ partition_identity tenant instance p size

-- Of no partition anything is lost, where each is opened from its own start on.
abbrev pub LoseNothing : Lists → List ℕ → Disk → Disk → Type 0
LoseNothing lists starts old new = (p : ℕ) (list : Vec ℕ Global) (start : ℕ) → slice_get lists p ≡ Some list
    → slice_get starts p ≡ Some start → LosesNothing list.items start old new
