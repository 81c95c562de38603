use Rattle.std.proofs.Common.{◌≡◌, drop}
use Rattle.std.specs.Prelude.{fold, map, max}
use Rattle.kb_tenant_state.specs.Ids.{next_id_among, next_id_of}
use Rattle.kb_tenant_state.specs.declared.partition.Partition.{Partition}
use Rattle.kb_tenant_state.proofs.ids.next_id_among.Given as goal

-- from the greatest so far on, with the partitions that are still to come
abbrev pub invariant-loop-partition : goal.invariant-loop-partition
invariant-loop-partition g l = fold max l.next (map (λ (x : Partition g.row.L.Denot). next_id_of x) (drop l.partition-index l.partitions)) ≡ next_id_among l.partitions
