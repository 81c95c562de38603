-- That what a tenant has never passes its limits.
use Rattle.std.specs.Prelude.{◌≤◌, ℕ, Option, Some, None, length, max, ⊤}
use Rattle.std.specs.List.{AllByRecursion}
use Rattle.std.specs.List.Sorted.{IsStrictlySortedBy}
use Rattle.std.specs.Map.{keys_of}
use Rattle.std.specs.Ordering.{nat_cmp}
use Rattle.std.specs.Cmp.Lexicographic.{slice_cmp}
use Rattle.kb_topics.specs.Known.{PartitionState, TopicState}
use Rattle.kb_tenant_state.specs.Stored.{offsets_in, partitions_in, stored_in, texts_in}
use Rattle.kb_tenant_state.specs.World.{World}
use Rattle.kb_tenant.specs.declared.limits.DataLimits.{DataLimits}

-- The new count is at most the limit, or at most the old count. None is no limit.
abbrev pub IsKept : Option ℕ → ℕ → ℕ → Type 0
IsKept None old new = ⊤
IsKept (Some limit) old new = new ≤ max limit old

-- From one world to another each count that has a limit is kept: the bytes of batches, the topics, their partitions, the offsets that
-- groups have committed, and the bytes of the texts of those.
pub record AreLimitsKept (limits : DataLimits) (old new : World) : Type 0 where
  pub bytes : IsKept limits.bytes (stored_in old) (stored_in new)
  pub topics : IsKept limits.topics (length old.known.topics) (length new.known.topics)
  pub partitions : IsKept limits.partitions (partitions_in old.known) (partitions_in new.known)
  pub offsets : IsKept limits.offsets (offsets_in old.known) (offsets_in new.known)
  pub texts : IsKept limits.group_bytes (texts_in old.known) (texts_in new.known)

-- No group has two offsets of a partition: they stand in strict order of groups.
abbrev pub IsOrdered : PartitionState → Type 0
IsOrdered p = IsStrictlySortedBy (slice_cmp nat_cmp) (keys_of p.commits)

abbrev pub HasOrderedTopic : ℕ × TopicState → Type 0
HasOrderedTopic t = AllByRecursion IsOrdered t.1.partitions

-- So it is for each partition of a world.
abbrev pub HasOrderedCommits : World → Type 0
HasOrderedCommits w = AllByRecursion HasOrderedTopic w.known.topics
