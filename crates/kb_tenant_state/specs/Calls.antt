-- What each call makes of a world, and answers, where memory and the store refuse nothing.
use Rattle.std.specs.Prelude.{ℕ, ℤ, pos, negsuc, Bool, true, false, List, [], ◌∷◌, length, map, Option, Some, None, Result, Ok, Err, IsErr}
use Rattle.std.specs.Prelude.{nat_le, int_lt, ◌≤◌, ◌<◌, ◌+◌, ◌^◌, ◌≡◌, ◌++◌, ◌||◌, if◌then◌else◌, option_map}
use Rattle.std.specs.List.{flat_map, range_with_len}
use Rattle.std.specs.Option.{option_and_then}
use Rattle.std.specs.Ordering.{int_eq}
use Rattle.kb_batch.specs.Batch.{natural, count_of}
use Rattle.kb_producers.specs.Batches.{kept_all, kept_of}
use Rattle.kb_producers.specs.Verdict.{verdict}
use Rattle.kb_producers.specs.declared.verdict.Verdict.{Verdict}
use Rattle.kb_batch.specs.Time.{first_at}
use Rattle.kb_batch.specs.declared.time.OffsetAndTimestamp.{OffsetAndTimestamp}
use Rattle.kb_log.specs.Log.{fetched, retained_start}
use Rattle.kb_topics.specs.ByName.{by_name}
use Rattle.kb_topics.specs.Commands.{start_command}
use Rattle.kb_topics.specs.Known.{Known, CommittedOffset, PartitionState, TopicState, new_topic, with_topic, without_topic, with_id}
use Rattle.kb_topics.specs.Known.{with_commit, with_partition, without_group, named, topic_at, partition_at, committed_at, step}
use Rattle.kb_topics.specs.Refusals.{commit_refusal, create_refusal, delete_group_refusal, issue_refusal}
use Rattle.kb_topics.specs.declared.config.TopicConfig.{TopicConfig}
use Rattle.kb_topics.specs.declared.fault.CatalogFault.{CatalogFault}
use Rattle.kb_topics.specs.declared.fault.CatalogFault.TheVariants as catalog
use Rattle.kb_tenant_state.specs.Logs.{LogState, with_log, with_new_logs, without_logs, appended, without_below}
use Rattle.kb_tenant_state.specs.declared.fault.PartitionFault.{PartitionFault}
use Rattle.kb_tenant_state.specs.declared.fault.PartitionFault.TheVariants as partition
use Rattle.kb_tenant_state.specs.World.{World, log_in}
use Rattle.kb_tenant_state.specs.declared.topic_partition.TopicPartition.{TopicPartition}

-- with another log at a place
abbrev pub with_log_at : World → TopicPartition → LogState → World
with_log_at w place l = record w { logs = with_log place.instance place.number l w.logs }

-- ---- one partition

abbrev pub appended_to : World → TopicPartition → List ℕ → Option LogState → World × Result ℤ PartitionFault
appended_to w place batch None = (w, Err partition.Unknown)
appended_to w place batch (Some l) =
    if nat_le (2 ^ 63) (l.end + count_of batch) then (w, Err partition.Full)
    else (with_log_at w place (appended batch l), Ok (pos l.end))

-- A batch is added at the log's end, which is the answer, unless the end would pass the greatest offset.
abbrev pub append : World → TopicPartition → List ℕ → World × Result ℤ PartitionFault
append w place batch = appended_to w place batch (log_in w place)

abbrev pub fetched_from : ℤ → ℕ → Bool → Option LogState → Result (List ℕ) PartitionFault
fetched_from offset limit first None = Err partition.Unknown
fetched_from offset limit first (Some l) =
    if int_lt offset (pos l.start) || int_lt (pos l.end) offset then Err partition.Range
    else Ok (fetched (natural offset) limit first l.batches)

-- the whole batches from the one that holds the offset on, within a limit
abbrev pub fetch : World → TopicPartition → ℤ → ℕ → Bool → Result (List ℕ) PartitionFault
fetch w place offset limit first = fetched_from offset limit first (log_in w place)

-- Records were added behind what there was, or there is what there was.
abbrev pub IsGiven : Result (List ℕ) PartitionFault → List ℕ → Result (Unit {0}) PartitionFault → List ℕ → Type 0
IsGiven (Ok records) old (Ok u) new = new ≡ old ++ records
IsGiven (Ok records) old (Err f) new = ⊥
IsGiven (Err g) old (Ok u) new = ⊥
IsGiven (Err g) old (Err f) new = (f ≡ g) × (new ≡ old)

abbrev pub HasAtMost : Result (List ℕ) PartitionFault → ℕ → Type 0
HasAtMost (Ok records) n = length records ≤ n
HasAtMost (Err f) n = ⊥

-- a fetch from the offset on is not refused, and gives at most so many bytes, whatever its limit, which has 64 bits
abbrev pub GivesAtMost : World → TopicPartition → ℤ → ℕ → Type 0
GivesAtMost w place offset n = (limit : ℕ) (first : Bool) → limit < 2 ^ 64 → HasAtMost (fetch w place offset limit first) n

-- a fetch from the offset on is refused, whatever its limit
abbrev pub GivesNothing : World → TopicPartition → ℤ → Type 0
GivesNothing w place offset = (limit : ℕ) (first : Bool) → IsErr (fetch w place offset limit first)

abbrev pub found_in : ℤ → Option LogState → Result (Option OffsetAndTimestamp) PartitionFault
found_in timestamp None = Err partition.Unknown
found_in timestamp (Some l) = Ok (first_at timestamp l.start l.batches)

-- the first record from the start on that is not older than a timestamp
abbrev pub find : World → TopicPartition → ℤ → Result (Option OffsetAndTimestamp) PartitionFault
find w place timestamp = found_in timestamp (log_in w place)

-- where a log starts, and where it ends
abbrev pub start_of : World → TopicPartition → Option ℤ
start_of w place = option_map (λ (l : LogState). pos l.start) (log_in w place)

abbrev pub end_of : World → TopicPartition → Option ℤ
end_of w place = option_map (λ (l : LogState). pos l.end) (log_in w place)

-- what becomes of a batch, by its producer's batches in the log
abbrev pub judged : World → TopicPartition → List ℕ → Option Verdict
judged w place batch = option_map (λ (l : LogState). verdict (kept_all l.batches) (kept_of batch)) (log_in w place)

-- ---- topics and producer ids

abbrev pub created_unless : World → List ℕ → ℤ → TopicConfig → Option CatalogFault → World × Result (Unit {0}) CatalogFault
created_unless w name partitions config (Some f) = (w, Err f)
created_unless w name partitions config None = (
  record w {
    known = with_topic w.known (new_topic name (natural partitions) config);
    logs = with_new_logs w.known.creates (natural partitions) w.logs;
  },
  Ok tt,
)

-- A topic is made, with empty logs.
abbrev pub create : World → List ℕ → ℤ → TopicConfig → World × Result (Unit {0}) CatalogFault
create w name partitions config = created_unless w name partitions config (create_refusal w.known name partitions config)

abbrev pub deleted_at : World → Option ℕ → World × Result (Unit {0}) CatalogFault
deleted_at w None = (w, Err catalog.Unknown)
deleted_at w (Some i) = (record w { known = without_topic w.known i; logs = without_logs i w.logs }, Ok tt)

-- A topic is deleted, with its logs and what groups committed to it.
abbrev pub delete : World → List ℕ → World × Result (Unit {0}) CatalogFault
delete w name = deleted_at w (named name w.known.topics)

abbrev pub issued_unless : World → Option CatalogFault → World × Result ℤ CatalogFault
issued_unless w (Some f) = (w, Err f)
issued_unless w None = (record w { known = with_id w.known }, Ok (pos w.known.issues))

-- The next producer id is given out.
abbrev pub issue : World → World × Result ℤ CatalogFault
issue w = issued_unless w (issue_refusal w.known)

-- ---- committed offsets

-- what the catalog has of the partition at a place
abbrev pub known_at : Known → TopicPartition → Option PartitionState
known_at k place = partition_at k (pos place.instance) (pos place.number)

-- what is known where a group's offset, with what it writes beside it, stands in the place of the one that it had committed
abbrev pub with_committed : Known → TopicPartition → List ℕ → CommittedOffset → Option PartitionState → Known
with_committed k place group c None = k
with_committed k place group c (Some p) = with_partition k (pos place.instance) (pos place.number) (with_commit p group c)

abbrev pub committed_unless : World → TopicPartition → List ℕ → CommittedOffset → Option CatalogFault → World
    × Result (Unit {0}) CatalogFault
committed_unless w place group c (Some f) = (w, Err f)
committed_unless w place group c None = (record w { known = with_committed w.known place group c (known_at w.known place) }, Ok tt)

-- A group commits an offset to a partition, with metadata beside it.
abbrev pub commit : World → TopicPartition → List ℕ → ℤ → List ℕ → World × Result (Unit {0}) CatalogFault
commit w place group offset metadata =
    committed_unless w place group (record { offset = offset; metadata = metadata }) (commit_refusal metadata (known_at w.known place))

-- what a group committed to a partition, if it did
abbrev pub committed : World → TopicPartition → List ℕ → Option CommittedOffset
committed w place group = option_and_then (committed_at group) (known_at w.known place)

abbrev pub group_deleted_unless : World → List ℕ → Option CatalogFault → World × Result (Unit {0}) CatalogFault
group_deleted_unless w group (Some f) = (w, Err f)
group_deleted_unless w group None = (record w { known = without_group w.known group }, Ok tt)

-- All that a group committed goes, to whatever partition.
abbrev pub delete_group : World → List ℕ → World × Result (Unit {0}) CatalogFault
delete_group w group = group_deleted_unless w group (delete_group_refusal w.known group)

-- ---- deletion of records

-- the offset that a deletion of records asks for; -1 is the end
abbrev pub start_asked : ℤ → ℤ → ℤ
start_asked offset end = if int_eq offset (negsuc 0) then end else offset

abbrev pub deleted_to : World → TopicPartition → ℤ → Option Known → World × Result ℤ PartitionFault
deleted_to w place start None = (w, Err partition.Unknown)
deleted_to w place start (Some k) =
    (record w { known = k; logs = without_below place.instance place.number start (log_in w place) w.logs }, Ok start)

-- The start of a partition moves to an offset, which is the answer: the catalog records that, and the batches that end at most there go.
abbrev pub start_moved : World → TopicPartition → ℤ → World × Result ℤ PartitionFault
start_moved w place start = deleted_to w place start (step w.known (start_command (pos place.instance) (pos place.number) start))

-- what a partition answers where the catalog refuses its new start; a meta log that is full is the store's refusal
abbrev pub fault_of : CatalogFault → PartitionFault
fault_of catalog.Full = partition.Store
fault_of catalog.Store = partition.Store
fault_of catalog.Memory = partition.Memory
fault_of _ = partition.Unknown

abbrev pub deleted_below : World → TopicPartition → ℤ → LogState → World × Result ℤ PartitionFault
deleted_below w place start l =
    if int_lt start (pos 0) || int_lt (pos l.end) start then (w, Err partition.Range)
    else if int_lt (pos l.start) start then start_moved w place start
    else (w, Ok (pos l.start))

abbrev pub deleted_from : World → TopicPartition → ℤ → Option LogState → World × Result ℤ PartitionFault
deleted_from w place offset None = (w, Err partition.Unknown)
deleted_from w place offset (Some l) = deleted_below w place (start_asked offset (pos l.end)) l

-- The start of a partition moves to an offset that lies above it. The answer is the start.
abbrev pub delete_records : World → TopicPartition → ℤ → World × Result ℤ PartitionFault
delete_records w place offset = deleted_from w place offset (log_in w place)

-- ---- retention

abbrev pub due_in : ℕ → Option TopicState → Option LogState → Option ℕ
due_in clock (Some t) (Some l) =
    let start = retained_start (pos clock) t.config.retention_ms t.config.retention_bytes l.start l.end l.batches in
    if nat_le start l.start then None else Some start
due_in clock None l = None
due_in clock (Some t) None = None

-- the start of a partition after retention at a time of the clock, in milliseconds, by its topic's settings, where it is above the one
-- that it has
abbrev pub due : ℕ → World → TopicPartition → Option ℕ
due clock w place = due_in clock (topic_at place.instance w.known.topics) (log_in w place)

abbrev pub moved_to : World → TopicPartition → ℕ → Option Known → World × Bool
moved_to w place start None = (w, false)
moved_to w place start (Some k) =
    (record w { known = k; logs = without_below place.instance place.number (pos start) (log_in w place) w.logs }, true)

abbrev pub retained_from : World → TopicPartition → Option ℕ → World × Bool
retained_from w place None = (w, false)
retained_from w place (Some start) =
    moved_to w place start (step w.known (start_command (pos place.instance) (pos place.number) (pos start)))

-- The new start of a partition is recorded, and the batches that end at most there go; and whether any goes.
abbrev pub retain : ℕ → World → TopicPartition → World × Bool
retain clock w place = retained_from w place (due clock w place)

-- the partition of that number of the topic of an instance
abbrev pub numbered : ℕ → ℕ → TopicPartition
numbered instance number = record { instance = instance; number = number }

-- the partitions of a topic, by number
abbrev pub places_of_topic : ℕ × TopicState → List TopicPartition
places_of_topic topic = map (numbered topic.0) (range_with_len 0 (length topic.1.partitions))

-- the partitions of all topics, by name and number
abbrev pub all_places : World → List TopicPartition
all_places w = flat_map places_of_topic (by_name w.known.topics)

-- The batches that the settings keep no longer go from each of these partitions in turn; and whether any goes.
abbrev pub retain_each : ℕ → List TopicPartition → World → World × Bool
retain_each clock [] w = (w, false)
retain_each clock (place ∷ places) w =
    let first = retain clock w place in
    let rest = retain_each clock places first.0 in
    (rest.0, first.1 || rest.1)

-- ... from all partitions
abbrev pub retain_all : ℕ → World → World × Bool
retain_all clock w = retain_each clock (all_places w) w
