-- What pages show of a tenant, row by row.
use Rattle.std.specs.Prelude.{ℕ, ℤ, List, map, Option}
use Rattle.kb_metrics.specs.declared.limits.Limits.{Limits}
use Rattle.kb_over_limit.specs.declared.over.OverLimit.{OverLimit}
use Rattle.kb_metrics.specs.declared.rows.LagRow.{LagRow}
use Rattle.kb_metrics.specs.declared.rows.GroupRow.{GroupRow}
use Rattle.kb_metrics.specs.declared.rows.PartitionRow.{PartitionRow}
use Rattle.kb_metrics.specs.declared.rows.CommitRow.{CommitRow}
use Rattle.kb_metrics.specs.declared.rows.TenantRow.{TenantRow}

-- how far a group is behind in a topic
pub record Lag : Type 0 where
  pub group : List ℕ
  pub topic : List ℕ
  pub value : ℕ

-- a group: its id, how many members it has, and its generation
pub record Group : Type 0 where
  pub id : List ℕ
  pub members : ℕ
  pub generation : ℤ

-- a partition of a topic: its number, the offset of its first record, and the one behind its last record
pub record Partition : Type 0 where
  pub topic : List ℕ
  pub number : ℕ
  pub start : ℤ
  pub end : ℤ

-- what a group committed to a partition of a topic
pub record Commit : Type 0 where
  pub group : List ℕ
  pub topic : List ℕ
  pub number : ℕ
  pub offset : ℤ

-- a tenant: numbers of its connections, of what it keeps, and of its traffic, and its limits; the bytes of its batches where they are
-- known; requests stand at the places of their API keys; the store's refusals are among all of them;
-- and how often it was told that it is past a limit
pub record Tenant : Type 0 where
  pub name : List ℕ
  pub connections : ℕ
  pub waiting : ℕ
  pub topics : ℕ
  pub partitions : ℕ
  pub stored : Option ℕ
  pub committed_offsets : ℕ
  pub limits : Limits
  pub groups : List Group
  pub lags : List Lag
  pub requests : List ℕ
  pub request_bytes : ℕ
  pub response_bytes : ℕ
  pub refusals : ℕ
  pub store_refusals : ℕ
  pub over : OverLimit

-- ---- as the code has them

abbrev pub lag_row : LagRow → Lag
lag_row l = record { group = l.group.now; topic = l.topic.now; value = l.value }

abbrev pub group_row : GroupRow → Group
group_row g = record { id = g.id.now; members = g.members; generation = g.generation }

abbrev pub partition_row : PartitionRow → Partition
partition_row p = record { topic = p.topic.now; number = p.number; start = p.start; end = p.end }

abbrev pub commit_row : CommitRow → Commit
commit_row c = record { group = c.group.now; topic = c.topic.now; number = c.number; offset = c.offset }

abbrev pub tenant_row : TenantRow → Tenant
tenant_row t = record {
  name = t.name.now;
  connections = t.connections;
  waiting = t.waiting;
  topics = t.topics;
  partitions = t.partitions;
  stored = t.stored;
  committed_offsets = t.committed_offsets;
  limits = t.limits;
  groups = map group_row t.groups.items;
  lags = map lag_row t.lags.items;
  requests = t.requests.now;
  request_bytes = t.request_bytes;
  response_bytes = t.response_bytes;
  refusals = t.refusals;
  store_refusals = t.store_refusals;
  over = t.over;
}
