use Rattle.kb_tenant_state.proofs.Discarded.{Discarding}
use Rattle.kb_tenant_state.proofs.topic.discard_all.Given as goal

abbrev pub invariant-loop-partition : goal.invariant-loop-partition
invariant-loop-partition g l =
    Discarding g.L.PartitionLog.log l.fn.partitions.items l.partitions.items (g.S.Store.disk l.fn.shelf.store) (g.S.Store.disk l.shelf.store) l.fn.shelf.next l.shelf.next l.removed

abbrev pub decreases-loop-partition : goal.decreases-loop-partition
decreases-loop-partition g l = goal.left-loop-partition g l
