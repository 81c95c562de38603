use Rattle.std.proofs.Common.{◌≡◌, map, take}
use Rattle.kb_tenant.specs.ListOffsets.{plain_partition}
use Rattle.kb_tenant.proofs.list_offsets.plain_partitions.Given as goal

-- those so far
abbrev pub invariant-loop-entry : goal.invariant-loop-entry
invariant-loop-entry l = l.plain ≡ map plain_partition (take l.entry-index l.entries)
