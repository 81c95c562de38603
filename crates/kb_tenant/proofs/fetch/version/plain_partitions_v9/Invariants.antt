use Rattle.std.proofs.Common.{◌≡◌, map, take}
use Rattle.kb_tenant.specs.Fetch.{plain_partition_v9}
use Rattle.kb_tenant.proofs.fetch.version.plain_partitions_v9.Given as goal

-- those so far
abbrev pub invariant-loop-asked : goal.invariant-loop-asked
invariant-loop-asked l = l.plain ≡ map plain_partition_v9 (take l.asked-index l.entries)
