-- What is said of tenants: each number is defined over what the tenant keeps, and over what is counted of its connections.
use Rattle.std.specs.Prelude.{ℕ, ℤ, ◌-ℤ◌, ◌^◌, ◌-◌, List, [], ◌∷◌, ◌++◌, length, map, min, Option, None, Some, slice_get}
use Rattle.std.specs.List.{flat_map, range_with_len, sum_by}
use Rattle.kb_batch.specs.Batch.{natural}
use Rattle.kb_coordinator.specs.declared.groups.Entry.{Entry}
use Rattle.kb_settings.specs.Names.{in_order}
use Rattle.kb_topics.specs.ByName.{by_name}
use Rattle.kb_topics.specs.Known.{CommittedOffset, PartitionState, TopicState}
use Rattle.kb_tenant_state.specs.Calls.{committed, end_of, numbered, start_of}
use Rattle.kb_tenant_state.specs.Stored.{offsets_in, up_to_end}
use Rattle.kb_tenant_state.specs.World.{World}
use Rattle.kb_tenant_state.specs.declared.topic_partition.TopicPartition.{TopicPartition}
use Rattle.kb_metrics.specs.Families.{committed_text, families_text, offsets_text}
use Rattle.kb_metrics.specs.Rows.{Commit, Group, Lag, Partition, Tenant}
use Rattle.kb_metrics.specs.declared.limits.Limits.{Limits}
use Rattle.kb_over_limit.specs.declared.over.OverLimit.{OverLimit}

-- 1. Lag

-- the end less the committed offset, at least 0; 0 where there is no such partition, or the group committed nothing to it
abbrev pub behind : Option ℤ → Option CommittedOffset → ℕ
behind (Some end) (Some c) = natural (end -ℤ c.offset)
behind end commit = 0

-- how far a group is behind in a partition
abbrev pub lag_at : World → List ℕ → TopicPartition → ℕ
lag_at w group place = behind (end_of w place) (committed w place group)

-- how far it is behind in the partitions of a topic together, as far as 64 bits go
abbrev pub lag_of : World → List ℕ → ℕ → ℕ → ℕ
lag_of w group instance count = min (sum_by (lag_at w group) (map (numbered instance) (range_with_len 0 count))) (2 ^ 64 - 1)

abbrev pub groups_at : PartitionState → List (List ℕ)
groups_at p = map (λ c. c.0) p.commits

-- the groups that committed to a partition of a topic, in byte order
abbrev pub groups_in : TopicState → List (List ℕ)
groups_in t = in_order (flat_map groups_at t.partitions)

-- a group's lag in a topic
abbrev pub topic_lag : World → ℕ × TopicState → List ℕ → Lag
topic_lag w t group = record { group = group; topic = t.1.name; value = lag_of w group t.0 (length t.1.partitions) }

abbrev pub topic_lags : World → ℕ × TopicState → List Lag
topic_lags w t = map (topic_lag w t) (groups_in t.1)

-- the lags of a tenant's groups, by topic
abbrev pub lags : World → List Lag
lags w = flat_map (topic_lags w) (by_name w.known.topics)

-- 2. Partitions

-- a partition, where it is there
abbrev pub between : List ℕ → ℕ → Option ℤ → Option ℤ → List Partition
between topic number (Some start) (Some end) = record { topic = topic; number = number; start = start; end = end } ∷ []
between topic number start end = []

abbrev pub partition_of : World → ℕ × TopicState → ℕ → List Partition
partition_of w t number = between t.1.name number (start_of w (numbered t.0 number)) (end_of w (numbered t.0 number))

abbrev pub topic_partitions : World → ℕ × TopicState → List Partition
topic_partitions w t = flat_map (partition_of w t) (range_with_len 0 (length t.1.partitions))

-- the partitions of a tenant, by topic
abbrev pub partitions : World → List Partition
partitions w = flat_map (topic_partitions w) (by_name w.known.topics)

abbrev pub commit_of : List ℕ → ℕ → List ℕ × CommittedOffset → Commit
commit_of topic number c = record { group = c.0; topic = topic; number = number; offset = c.1.offset }

-- what groups committed to a partition, by group
abbrev pub commits_to : List ℕ → ℕ → Option PartitionState → List Commit
commits_to topic number None = []
commits_to topic number (Some p) = map (commit_of topic number) p.commits

abbrev pub commits_in : TopicState → ℕ → List Commit
commits_in t number = commits_to t.name number (slice_get t.partitions number)

abbrev pub topic_commits : TopicState → List Commit
topic_commits t = flat_map (commits_in t) (range_with_len 0 (length t.partitions))

-- what groups committed to the partitions of a tenant, by topic
abbrev pub commits : World → List Commit
commits w = flat_map (λ t. topic_commits t.1) (by_name w.known.topics)

-- 3. What is said of a tenant

-- a tenant: its name, what it keeps of topics and of groups, the bytes of its batches where they are known, its limits, what is counted
-- of its connections, its refusals, how many of these are the store's, and how often it was told that it is past a limit
pub record Observed : Type 0 where
  pub name : List ℕ
  pub world : World
  pub stored : Option ℕ
  pub groups : List Entry
  pub limits : Limits
  pub connections : ℕ
  pub waiting : ℕ
  pub requests : List ℕ
  pub request_bytes : ℕ
  pub response_bytes : ℕ
  pub refusals : ℕ
  pub store_refusals : ℕ
  pub over : OverLimit

-- as far as 64 bits go
abbrev pub counted : ℕ → ℕ
counted n = min n (2 ^ 64 - 1)

abbrev pub partition_count : List (ℕ × TopicState) → ℕ
partition_count ts = counted (sum_by (λ t. length t.1.partitions) ts)

abbrev pub group_of : Entry → Group
group_of e = record { id = e.id; members = length e.group.members; generation = e.group.generation }

-- What pages show of a tenant. By its form it is a function of what that tenant keeps, of its own limits and of what is counted of its own
-- connections: nothing of another tenant is in it.
abbrev pub shown_tenant : Observed → Tenant
shown_tenant o = record {
  name = o.name;
  connections = o.connections;
  waiting = o.waiting;
  topics = length o.world.known.topics;
  partitions = partition_count o.world.known.topics;
  stored = o.stored;
  committed_offsets = up_to_end (offsets_in o.world.known);
  limits = o.limits;
  groups = map group_of o.groups;
  lags = lags o.world;
  requests = o.requests;
  request_bytes = o.request_bytes;
  response_bytes = o.response_bytes;
  refusals = o.refusals;
  store_refusals = o.store_refusals;
  over = o.over;
}

-- all that is said of tenants
abbrev pub tenants_text : List Observed → List ℕ
tenants_text os = families_text (map shown_tenant os)

-- all that is said of a tenant's partitions
abbrev pub partitions_text : Observed → List ℕ
partitions_text o = offsets_text o.name (partitions o.world) ++ committed_text o.name (commits o.world)
