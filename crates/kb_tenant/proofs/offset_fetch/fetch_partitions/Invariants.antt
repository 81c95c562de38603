use Rattle.std.proofs.Common.{◌≡◌, ◌++◌, map, drop}
use Rattle.std.specs.List.{flat_map}
use Rattle.kb_store.specs.Disk.{Files}
use Rattle.kb_tenant_state.specs.Parts.{world_of}
use Rattle.kb_tenant.specs.OffsetFetch.{fetched, partition_reply}
use Rattle.kb_tenant.proofs.offset_fetch.fetch_partitions.Given as goal

-- what was written, and what the rest is still to be answered, is the whole answer
abbrev pub invariant-loop-partition : goal.invariant-loop-partition
invariant-loop-partition g l =
    let write = (partition_reply l.has_epochs).written in
    (files : Files) → let f = fetched (world_of g.L.PartitionLog.log l.parts files) l.group l.topic in
    l.sink.bytes ++ flat_map write (map f (drop l.partition-index l.partitions)) ≡ l.initial.sink.bytes ++ flat_map write (map f l.partitions)
