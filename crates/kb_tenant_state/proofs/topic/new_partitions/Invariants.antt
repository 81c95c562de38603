use Rattle.std.proofs.Common.{◌≡◌, length}
use Rattle.std.specs.List.{All}
use Rattle.kb_tenant_state.specs.Made.{AreNumbered, IsEmptyPartition}
use Rattle.kb_tenant_state.proofs.topic.new_partitions.Given as goal

abbrev pub invariant-loop-number : goal.invariant-loop-number
invariant-loop-number g l = record {
  count : length l.partitions.items ≡ l.number;
  empty : All (IsEmptyPartition g.L.PartitionLog.log) l.partitions.items;
  numbered : AreNumbered g.L.PartitionLog.log l.fn.tenant l.fn.instance l.fn.segment_bytes l.partitions.items;
}
