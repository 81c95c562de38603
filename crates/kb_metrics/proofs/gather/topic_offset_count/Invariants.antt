use Rattle.std.proofs.Common.{◌≡◌, ◌<◌, ◌+◌, ◌^◌, drop}
use Rattle.kb_tenant_state.specs.Stored.{offsets_to, up_to_end}
use Rattle.kb_metrics.proofs.gather.topic_offset_count.Given as goal

-- the offsets so far, and those of the partitions that are still to come, are all
abbrev pub invariant-loop-partition : goal.invariant-loop-partition
invariant-loop-partition l = record {
  small : l.count < 2 ^ 64;
  all : up_to_end (l.count + offsets_to (drop l.partition-index l.topic.partitions)) ≡ up_to_end (offsets_to l.topic.partitions);
}
