use Rattle.std.proofs.Common.{length}
use Rattle.kb_tenant_state.proofs.Sized.{Summing}
use Rattle.kb_tenant_state.proofs.sizes.size_of_topic.Given as goal

-- the partitions in front of those that are left are summed
abbrev pub invariant-loop-partition : goal.invariant-loop-partition
invariant-loop-partition g l =
    Summing g.L.PartitionLog.log l.partitions (g.S.Store.disk l.initial.shelf.store) l.initial.shelf.next l.rest (g.S.Store.disk l.shelf.store) l.shelf.next l.size

abbrev pub decreases-loop-partition : goal.decreases-loop-partition
decreases-loop-partition g l = length l.rest
