use Rattle.std.proofs.Common.{rules}
use Rattle.std.proofs.lemmas.List.Sorted.{IsPartitionPoint-from_clause}
use Rattle.kb_coordinator.proofs.Search.{at_most, first_is, parted_by_id}
use Rattle.kb_coordinator.proofs.groups.first_above.Goals as goal

pub returns : goal.returns
returns c =
    first_is c.args.id.now c.args.groups.now _ c.partition_point.ensures.bound
    (IsPartitionPoint-from_clause (at_most c.args.id.now) _ _ c.partition_point.ensures.partitioned (parted_by_id c.args.id.now c.args.groups.now c.requires) (λ a r q k. search rules))
