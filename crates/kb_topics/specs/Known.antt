-- What the commands of a meta log come to, one after another.
use Rattle.std.specs.Prelude.{ℕ, ◌+◌, ◌-◌, ◌^◌, ℤ, pos, negsuc, Bool, List, [], ◌∷◌, length, replicate, Option, Some, None, is_none, nat_le, nat_lt}
use Rattle.std.specs.Prelude.{int_le, ◌&&◌, if◌then◌else◌, slice_get, slice_set, map, is_some}
use Rattle.std.specs.List.{list_any}
use Rattle.std.specs.Option.{option_map, option_and_then}
use Rattle.std.specs.Ordering.{nat_cmp, int_eq}
use Rattle.std.specs.Cmp.Lexicographic.{slice_cmp}
use Rattle.std.specs.Map.{lookup, set_value, remove_entry}
use Rattle.std.specs.BTreeMap.{insert_entry, is_at}
use Rattle.std.specs.Str.{bytes_eq}
use Rattle.kb_batch.specs.Batch.{natural}
use Rattle.kb_topics.specs.Name.{is_legal}
use Rattle.kb_topics.specs.declared.config.TopicConfig.{TopicConfig}
use Rattle.kb_topics.specs.declared.command.CreateTopic.{CreateTopic}
use Rattle.kb_topics.specs.declared.command.CommitOffset.{CommitOffset}
use Rattle.kb_topics.specs.declared.command.Command.{Command}
use Rattle.kb_topics.specs.declared.command.Command.TheVariants.{Create, Delete, Issue, Commit, Start, Snapshot, Topic, DeleteGroup}

-- how far a group has processed a partition
pub record CommittedOffset : Type 0 where
  pub offset : ℤ
  pub metadata : List ℕ

-- the recorded start, and what each group committed, in byte order of groups
pub record PartitionState : Type 0 where
  pub start : ℤ
  pub commits : List (List ℕ × CommittedOffset)

pub record TopicState : Type 0 where
  pub name : List ℕ
  pub config : TopicConfig
  pub partitions : List PartitionState

-- The topics, each under its instance, in order of instances; how many topics were made, and how many producer ids were given out.
pub record Known : Type 0 where
  pub topics : List (ℕ × TopicState)
  pub creates : ℕ
  pub issues : ℕ

abbrev pub empty : Known
empty = record { topics = []; creates = 0; issues = 0 }

-- ---- what is there

-- the topic of an instance
abbrev pub topic_at : ℕ → List (ℕ × TopicState) → Option TopicState
topic_at i ts = lookup (is_at (nat_cmp i)) ts

-- the instance of the topic of that name
abbrev pub named : List ℕ → List (ℕ × TopicState) → Option ℕ
named name [] = None
named name (e ∷ ts) = if bytes_eq name e.1.name then Some e.0 else named name ts

-- the partition of that number of the topic of that instance
abbrev pub partition_at : Known → ℤ → ℤ → Option PartitionState
partition_at k (pos i) (pos p) = option_and_then (λ t. slice_get t.partitions p) (topic_at i k.topics)
partition_at k (pos i) (negsuc p) = None
partition_at k (negsuc i) p = None

-- what a group committed
abbrev pub committed_at : List ℕ → PartitionState → Option CommittedOffset
committed_at group p = lookup (is_at (slice_cmp nat_cmp group)) p.commits

-- whether a group committed an offset to one of these partitions
abbrev pub has_committed_to : List ℕ → List PartitionState → Bool
has_committed_to group ps = list_any (λ p. is_some (committed_at group p)) ps

-- whether a group committed an offset to a partition of one of these topics
abbrev pub has_committed : List ℕ → List (ℕ × TopicState) → Bool
has_committed group ts = list_any (λ e. has_committed_to group e.1.partitions) ts

-- ---- what changes

-- a partition when its topic is made
abbrev pub new_partition : PartitionState
new_partition = record { start = pos 0; commits = [] }

abbrev pub new_topic : List ℕ → ℕ → TopicConfig → TopicState
new_topic name partitions config = record { name = name; config = config; partitions = replicate partitions new_partition }

-- one more topic, under the number of topics that were made before
abbrev pub with_topic : Known → TopicState → Known
with_topic k t = record k { topics = insert_entry nat_cmp k.topics k.creates t; creates = k.creates + 1 }

-- without the topic of that instance, and all that it holds
abbrev pub without_topic : Known → ℕ → Known
without_topic k i = record k { topics = remove_entry (is_at (nat_cmp i)) k.topics }

-- one more producer id
abbrev pub with_id : Known → Known
with_id k = record k { issues = k.issues + 1 }

-- a topic with another partition of that number
abbrev pub with_part : ℕ → PartitionState → TopicState → TopicState
with_part p part t = record t { partitions = slice_set t.partitions p part }

abbrev pub put_topic : ℕ → ℕ → PartitionState → List (ℕ × TopicState) → Option TopicState → List (ℕ × TopicState)
put_topic i p part ts None = ts
put_topic i p part ts (Some t) = set_value (is_at (nat_cmp i)) ts (with_part p part t)

-- with another partition of that number of that topic
abbrev pub with_partition : Known → ℤ → ℤ → PartitionState → Known
with_partition k i p part = record k { topics = put_topic (natural i) (natural p) part k.topics (topic_at (natural i) k.topics) }

abbrev pub with_start : PartitionState → ℤ → PartitionState
with_start p offset = record p { start = offset }

abbrev pub with_commit : PartitionState → List ℕ → CommittedOffset → PartitionState
with_commit p group c = record p { commits = insert_entry (slice_cmp nat_cmp) p.commits group c }

-- what a group had committed, or nothing, in place of what it has
abbrev pub with_former : PartitionState → List ℕ → Option CommittedOffset → PartitionState
with_former p group None = record p { commits = remove_entry (is_at (slice_cmp nat_cmp group)) p.commits }
with_former p group (Some c) = record p { commits = set_value (is_at (slice_cmp nat_cmp group)) p.commits c }

-- without what a group committed
abbrev pub without_commit : List ℕ → PartitionState → PartitionState
without_commit group p = record p { commits = remove_entry (is_at (slice_cmp nat_cmp group)) p.commits }

abbrev pub without_commits : List ℕ → TopicState → TopicState
without_commits group t = record t { partitions = map (without_commit group) t.partitions }

-- without all that a group committed, to whatever partition
abbrev pub without_group : Known → List ℕ → Known
without_group k group = record k { topics = map (λ e. (e.0, without_commits group e.1)) k.topics }

-- ---- commands

-- at least -1
abbrev pub is_limit : ℤ → Bool
is_limit z = int_le (negsuc 0) z

-- 1 to 64
abbrev pub is_partition_count : ℤ → Bool
is_partition_count z = int_le (pos 1) z && int_le z (pos 64)

-- a count of numbers that were given out, of which one more is left
abbrev pub is_left : ℕ → Bool
is_left n = nat_lt n (2 ^ 63 - 1)

abbrev pub may_create : Known → CreateTopic → Bool
may_create k c =
    is_legal c.name && is_none (named c.name k.topics) && int_eq c.instance (pos k.creates) && is_partition_count c.partitions
    && is_limit c.retention_ms && is_limit c.retention_bytes && nat_lt (length k.topics) 1000 && is_left k.creates

abbrev pub config_in : CreateTopic → TopicConfig
config_in c = record { retention_ms = c.retention_ms; retention_bytes = c.retention_bytes }

abbrev pub offset_in : CommitOffset → CommittedOffset
offset_in c = record { offset = c.offset; metadata = c.metadata }

-- What a command makes of what was there; none where it is not applicable. The commands of a snapshot alone are not.
abbrev pub step : Known → Command → Option Known
step k (Create c) = if may_create k c then Some (with_topic k (new_topic c.name (natural c.partitions) (config_in c))) else None
step k (Delete name) = option_map (without_topic k) (named name k.topics)
step k (Issue id) = if int_eq id (pos k.issues) && is_left k.issues then Some (with_id k) else None
step k (Commit c) =
    if nat_le (length c.metadata) 4096
    then option_map (λ p. with_partition k c.instance c.partition (with_commit p c.group (offset_in c)))
    (partition_at k c.instance c.partition)
    else None
step k (Start s) =
    option_and_then (λ p. if int_le p.start s.offset then Some (with_partition k s.instance s.partition (with_start p s.offset))
    else None) (partition_at k s.instance s.partition)
step k (DeleteGroup group) = if has_committed group k.topics then Some (without_group k group) else None
step k (Snapshot s) = None
step k (Topic c) = None
