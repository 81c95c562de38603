use Rattle.std.proofs.Common.{◌≡◌, ◌++◌, map}
use Rattle.std.specs.List.{flat_map, range_with_len}
use Rattle.kb_store.specs.Disk.{Files}
use Rattle.kb_tenant_state.specs.Parts.{world_of}
use Rattle.kb_metrics.specs.Gauges.{partition_of}
use Rattle.kb_metrics.specs.Rows.{partition_row}
use Rattle.kb_metrics.proofs.gather.push_topic_partitions.Given as goal

-- the rows of the partitions so far
abbrev pub invariant-loop-number : goal.invariant-loop-number
invariant-loop-number g l = (files : Files) →
    let w = world_of g.L.PartitionLog.log l.parts files in
    map partition_row l.rows.items
    ≡ map partition_row l.fn.rows.items ++ flat_map (partition_of w (l.instance, l.topic)) (range_with_len 0 l.number)
