use Rattle.std.proofs.Common.{◌≡◌, ◌++◌, map}
use Rattle.std.specs.List.{flat_map}
use Rattle.kb_store.specs.Disk.{Files}
use Rattle.kb_tenant_state.specs.Parts.{world_of}
use Rattle.kb_metrics.specs.Gauges.{topic_partitions}
use Rattle.kb_metrics.specs.Rows.{partition_row}
use Rattle.kb_metrics.proofs.gather.partition_rows.Given as goal

-- the rows of the topics so far, and those of the topics that are still to come, are all
abbrev pub invariant-loop-instance : goal.invariant-loop-instance
invariant-loop-instance g l = (files : Files) →
    let w = world_of g.L.PartitionLog.log l.parts files in
    map partition_row l.rows.items ++ flat_map (topic_partitions w) l.instance-iterator ≡ flat_map (topic_partitions w) l.initial.instance-iterator
