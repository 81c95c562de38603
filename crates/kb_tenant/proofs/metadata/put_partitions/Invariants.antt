use Rattle.std.proofs.Common.{◌≡◌, ◌++◌, map}
use Rattle.std.specs.List.{flat_map, range_with_len}
use Rattle.kb_tenant.specs.Metadata.{partition_as, partition_described}
use Rattle.kb_tenant.proofs.metadata.put_partitions.Given as goal

-- what was written is what the partitions so far are described as
abbrev pub invariant-loop-partition : goal.invariant-loop-partition
invariant-loop-partition l = l.sink.bytes ≡ l.initial.sink.bytes ++ flat_map (partition_as l.has_epochs l.has_offline) (map partition_described (range_with_len 0 l.partition))
