use Rattle.std.proofs.Common.{◌≡◌, ◌<◌, ◌+◌, ◌^◌, drop}
use Rattle.kb_tenant_state.specs.Stored.{texts_of, up_to_end}
use Rattle.kb_tenant_state.proofs.usage.topic_texts_by.Given as goal

-- the texts so far, and those of the partitions that are still to come, are all
abbrev pub invariant-loop-partition : goal.invariant-loop-partition
invariant-loop-partition l = record {
  small : l.sum < 2 ^ 64;
  all : up_to_end (l.sum + texts_of l.group (drop l.partition-index l.topic.partitions)) ≡ up_to_end (texts_of l.group l.topic.partitions);
}
