use Rattle.std.proofs.Common.{◌≡◌, ◌++◌}
use Rattle.std.specs.List.{flat_map}
use Rattle.kb_store.specs.Disk.{Files}
use Rattle.kb_tenant_state.specs.Parts.{world_of}
use Rattle.kb_tenant.specs.OffsetFetch.{partition_reply, told_in}
use Rattle.kb_tenant.proofs.all_offsets.put_in.Given as goal

-- what was written is what the group committed to the partitions so far
abbrev pub invariant-loop-number : goal.invariant-loop-number
invariant-loop-number g l =
    (files : Files) → l.sink.bytes
    ≡ l.initial.sink.bytes ++ flat_map (partition_reply l.has_epochs).written (told_in (world_of g.L.PartitionLog.log l.parts files) l.group l.instance l.number)
