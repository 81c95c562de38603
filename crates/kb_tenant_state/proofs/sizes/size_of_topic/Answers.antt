use Rattle.std.proofs.lemmas.List.{nil_from_length}
use Rattle.kb_tenant_state.proofs.Sized.{next_sound, sum_all, sum_next, sum_none}
use Rattle.kb_tenant_state.proofs.sizes.size_of_topic.Goals as goal

pub loop-partition-init : goal.loop-partition-init
loop-partition-init g c = sum_none g.L.PartitionLog.log c.args.partitions.now (g.S.Store.disk c.args.shelf.now.store) c.args.shelf.now.next c.requires

pub size-requires : goal.size-requires
size-requires g c =
    let disk = g.S.Store.disk in
    let before = c.args.shelf.now in
    let now = c.loop-partition.shelf in
    next_sound g.L.PartitionLog.log c.args.partitions.now (disk before.store) before.next c.loop-partition.rest.now c.in-Some.behind.now c.in-Some.partition.now (disk now.store) now.next c.loop-partition.size
    c.in-Some.ensures.cases.0 c.loop-partition.invariant

pub loop-partition-preserved : goal.loop-partition-preserved
loop-partition-preserved g c =
    let disk = g.S.Store.disk in
    let before = c.args.shelf.now in
    let now = c.loop-partition.shelf in
    let after = c.size.new.shelf in
    sum_next g.L.PartitionLog.log c.args.partitions.now (disk before.store) before.next c.loop-partition.rest.now c.in-Some.behind.now c.in-Some.partition.now (disk now.store) now.next c.loop-partition.size
    c.in-Some.ensures.cases.0 c.loop-partition.invariant (disk after.store) after.next c.size.ensures.shelf c.in_ok-more.more c.saturating_add-size.result c.in_ok-more.ensures.size c.saturating_add-size.ensures

pub returns-clause-looks : goal.returns-clause-looks
returns-clause-looks g c = c.loop-partition.invariant.look

pub returns-clause-size : goal.returns-clause-size
returns-clause-size g c =
    let disk = g.S.Store.disk in
    let before = c.args.shelf.now in
    let now = c.loop-partition.shelf in
    sum_all g.L.PartitionLog.log c.args.partitions.now (disk before.store) before.next c.loop-partition.rest.now (disk now.store) now.next c.loop-partition.size (nil_from_length c.loop-partition.rest.now c.in_default.ensures.cases) c.loop-partition.invariant
