-- The topics of a tenant, opened one after another by their instances.
use Rattle.std.specs.Prelude.{◌≡◌, ◌≢◌, ◌<◌, ◌++◌, ℕ, nat_lt, pos, List, [], map, length, slice_get, Some, None, IsSome, IsPermutation}
use Rattle.std.specs.Prelude.{if◌then◌else◌}
use Rattle.std.specs.Option.{option_map}
use Rattle.std.specs.List.{Contains, concat}
use Rattle.std.specs.Map.{lookup}
use Rattle.std.specs.BTreeMap.{is_at}
use Rattle.std.specs.Ordering.{nat_cmp}
use Rattle.std.specs.declared.alloc.Global.{Global}
use Rattle.std.specs.declared.vec.Vec.{Vec}
use Rattle.kb_store.specs.Disk.{Disk}
use Rattle.kb_log.specs.OnShelf.{no_file}
use Rattle.kb_segment_log.specs.SegmentLog.{segment_log, Clears}
use Rattle.kb_segment_log.specs.declared.log.SegmentLog.{SegmentLog}
use Rattle.kb_topics.specs.Known.{Known, PartitionState, TopicState, topic_at, partition_at}
use Rattle.kb_tenant_state.specs.Logs.{LogState, log_at}
use Rattle.kb_tenant_state.specs.Partitions.{Entries, Owned, AreSound, AreExact, AreStarted, AreNamed, Agree, logs_of, places_of, IsRestored}
use Rattle.kb_tenant_state.specs.Topic.{AreApartLogs, OwnedAmong}
use Rattle.kb_tenant_state.specs.declared.partition.Partition.{Partition}
use Rattle.kb_tenant_state.specs.Parts as parts
use Rattle.kb_tenant_state.specs.Tied.{partition_count}
use Rattle.kb_opening.specs.Opened.{IsLogOf}
use Rattle.kb_opening.specs.Directory.{all_files, files_at}
use Rattle.kb_opening.specs.Partition.{Lists, IsAmong, AreAllNamed, ArePartitionsOf, AreNumbered}
use Rattle.kb_opening.specs.Settled.{AreSettledFrom, AreAccounted}
use Rattle.kb_opening.specs.Tenant.{AreListed, AreOwnNamed, TakesSome, recorded_start}
use Rattle.kb_opening.specs.declared.directory.Directory.{Directory}
use Rattle.kb_opening.specs.declared.owner.Owner.{Owner}
use Rattle.kb_opening.specs.declared.owner.Owner.TheVariants as owners

-- ---- one topic

-- all numbers in some lists
abbrev pub listed_numbers : Lists → List ℕ
listed_numbers lists = concat (map (λ l. l.items) lists)

-- The files of a topic's first partitions were taken out, each partition's in a list of its own.
pub record TakesTopic (t i n : ℕ) (old : Directory) (lists : Lists) (new : Directory) : Type 0 where
  pub count : length lists ≡ n
  pub files : (p : ℕ) (list : Vec ℕ Global) → slice_get lists p ≡ Some list → list.items ≡ files_at (owners.Partition t i p) old
  pub none : (p : ℕ) → p < n → files_at (owners.Partition t i p) new ≡ []
  pub others : (o : Owner) → ((p : ℕ) → p < n → o ≢ owners.Partition t i p) → files_at o new ≡ files_at o old
  pub strays : new.strays.items ≡ old.strays.items
  pub all : IsPermutation (all_files old) (listed_numbers lists ++ all_files new)

-- The partitions of a topic were opened, each from the files that the directory had of it, and were taken in.
pub record OpensTopic (t : ℕ) (name : List ℕ) (size i : ℕ) (topic : TopicState) (first : Disk) (from : Directory) (old : Entries SegmentLog)
    (now : Disk) (left : Directory) (new : Entries SegmentLog) (next : ℕ) : Type 0 where
  pub lists : Lists
  pub xs : List (Partition SegmentLog)
  pub takes : TakesTopic t i (partition_count topic) from lists left
  pub count : length xs ≡ length lists
  pub apart : AreApartLogs segment_log xs now.table next
  pub named : AreNumbered name i size xs
  pub opened : now.honest → AreAllNamed name i size first.files lists
      → ArePartitionsOf first.files lists (map recorded_start topic.partitions) xs now.files
  pub owned : (file : ℕ) → OwnedAmong segment_log xs file → IsAmong lists file
  pub others : Clears (IsAmong lists) first now
  pub settled : AreSettledFrom lists (map recorded_start topic.partitions) xs now
  pub restored : IsRestored segment_log i xs old new

-- nothing changed
pub record OpensNone (first : Disk) (from : Directory) (old : Entries SegmentLog) (now : Disk) (left : Directory)
    (new : Entries SegmentLog) : Type 0 where
  pub others : Clears no_file first now
  pub files : left ≡ from
  pub entries : new ≡ old

-- ---- those of several instances

-- The file is of a partition that the topics have, of an instance below one.
pub record IsOfKnown (d : Directory) (t : ℕ) (k : Known) (n file : ℕ) : Type 0 where
  pub instance : ℕ
  pub number : ℕ
  pub below : instance < n
  pub known : IsSome (partition_at k (pos instance) (pos number))
  pub has : Contains (files_at (owners.Partition t instance number) d) file

-- The topics of the instances below one are opened, from what the disk and the directory were first.
pub record OpensBelow (t : ℕ) (name : List ℕ) (size : ℕ) (k : Known) (n : ℕ) (first : Disk) (from : Directory) (es : Entries SegmentLog)
    (now : Disk) (left : Directory) (next : ℕ) : Type 0 where
  pub sound : AreSound segment_log es now.table next
  pub owned : (file : ℕ) → Owned segment_log es file → IsOfKnown from t k n file
  pub places : (j : ℕ) → lookup (is_at (nat_cmp j)) (places_of es)
      ≡ (if nat_lt j n then option_map partition_count (topic_at j k.topics) else None)
  pub named : AreNamed segment_log name size es
  pub agree : now.honest → AreOwnNamed name size t first.files from → Agree segment_log es now.files
  pub logs : now.honest → AreOwnNamed name size t first.files from → (i p : ℕ) (part : PartitionState) → i < n
      → partition_at k (pos i) (pos p) ≡ Some part
      → (l : LogState) × (log_at i p (logs_of segment_log es now.files) ≡ Some l)
      × IsLogOf first.files (files_at (owners.Partition t i p) from) (recorded_start part) l
  pub none : (i p : ℕ) → i < n → IsSome (partition_at k (pos i) (pos p)) → files_at (owners.Partition t i p) left ≡ []
  pub same : (o : Owner) → ((i p : ℕ) → i < n → IsSome (partition_at k (pos i) (pos p)) → o ≢ owners.Partition t i p)
      → files_at o left ≡ files_at o from
  pub strays : left.strays.items ≡ from.strays.items
  pub some : TakesSome from left
  pub gone : (file : ℕ) → IsOfKnown from t k n file → Contains (all_files left) file → ⊥
  pub others : Clears (IsOfKnown from t k n) first now
  pub listed : AreListed left now next
  pub started : AreStarted segment_log (parts.recorded_start k) es
  pub exact : AreExact segment_log es now.table
  pub accounts : AreAccounted from (Owned segment_log es) now left
