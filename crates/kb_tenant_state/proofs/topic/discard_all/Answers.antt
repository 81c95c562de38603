use Rattle.std.proofs.Common.{◌≡◌, subst, arith, length}
use Rattle.kb_tenant_state.proofs.Discarded.{Discarding, all_left, last_sound, discarded, refused, none_left, none_left_accounts}
use Rattle.kb_tenant_state.proofs.topic.discard_all.Goals as goal

pub loop-partition-init : goal.loop-partition-init
loop-partition-init g c = all_left g.L.PartitionLog.log c.args.partitions.items (g.S.Store.disk c.args.shelf.now.store) c.args.shelf.now.next c.requires

pub discard-discarded-requires : goal.discard-discarded-requires
discard-discarded-requires g c =
    let log = g.L.PartitionLog.log in
    let first = g.S.Store.disk c.args.shelf.now.store in
    let now = g.S.Store.disk c.loop-partition.shelf.store in
    let so_far = subst (λ xs. Discarding log c.args.partitions.items xs first now c.args.shelf.now.next c.loop-partition.shelf.next c.loop-partition.removed) c.in-Some.ensures.items c.loop-partition.invariant in
    last_sound log c.args.partitions.items c.pop.new.self.items c.in-Some.partition first now c.args.shelf.now.next c.loop-partition.shelf.next c.loop-partition.removed so_far

pub loop-partition-preserved-then-is_ok : goal.loop-partition-preserved-then-is_ok
loop-partition-preserved-then-is_ok g c =
    let log = g.L.PartitionLog.log in
    let first = g.S.Store.disk c.args.shelf.now.store in
    let now = g.S.Store.disk c.loop-partition.shelf.store in
    let so_far = subst (λ xs. Discarding log c.args.partitions.items xs first now c.args.shelf.now.next c.loop-partition.shelf.next c.loop-partition.removed) c.in-Some.ensures.items c.loop-partition.invariant in
    discarded log g.met.L.PartitionLog.lawful c.args.partitions.items c.pop.new.self.items c.in-Some.partition first now (g.S.Store.disk c.discard-discarded.new.shelf.store)
    c.args.shelf.now.next c.loop-partition.shelf.next c.discard-discarded.new.shelf.next c.loop-partition.removed c.discard-discarded.result
    c.requires so_far c.discard-discarded.ensures.others c.discard-discarded.ensures.gone c.discard-discarded.ensures.accounts c.discard-discarded.ensures.left c.discard-discarded.ensures.cause c.if-is_ok.ensures.value

pub loop-partition-preserved : goal.loop-partition-preserved
loop-partition-preserved g c =
    let log = g.L.PartitionLog.log in
    let first = g.S.Store.disk c.args.shelf.now.store in
    let now = g.S.Store.disk c.loop-partition.shelf.store in
    let so_far = subst (λ xs. Discarding log c.args.partitions.items xs first now c.args.shelf.now.next c.loop-partition.shelf.next c.loop-partition.removed) c.in-Some.ensures.items c.loop-partition.invariant in
    refused log g.met.L.PartitionLog.lawful c.args.partitions.items c.pop.new.self.items c.in-Some.partition first now (g.S.Store.disk c.discard-discarded.new.shelf.store)
    c.args.shelf.now.next c.loop-partition.shelf.next c.discard-discarded.new.shelf.next c.loop-partition.removed c.discard-discarded.result
    c.requires so_far c.discard-discarded.ensures.others c.discard-discarded.ensures.gone c.discard-discarded.ensures.accounts c.discard-discarded.ensures.left c.discard-discarded.ensures.cause c.if-is_ok.ensures.value

pub returns-clause-others : goal.returns-clause-others
returns-clause-others g c = c.loop-partition.invariant.others

pub returns-clause-gone : goal.returns-clause-gone
returns-clause-gone g c =
    let none : length c.loop-partition.partitions.items ≡ 0 = omega (arith, c.in_default.ensures.cases.0, c.loop-partition.partitions.ok.0) in
    none_left g.L.PartitionLog.log c.args.partitions.items c.loop-partition.partitions.items (g.S.Store.disk c.args.shelf.now.store) (g.S.Store.disk c.loop-partition.shelf.store)
    c.args.shelf.now.next c.loop-partition.shelf.next c.loop-partition.removed c.loop-partition.invariant none

pub returns-clause-accounts : goal.returns-clause-accounts
returns-clause-accounts g c =
    let none : length c.loop-partition.partitions.items ≡ 0 = omega (arith, c.in_default.ensures.cases.0, c.loop-partition.partitions.ok.0) in
    none_left_accounts g.L.PartitionLog.log c.args.partitions.items c.loop-partition.partitions.items (g.S.Store.disk c.args.shelf.now.store) (g.S.Store.disk c.loop-partition.shelf.store)
    c.args.shelf.now.next c.loop-partition.shelf.next c.loop-partition.removed c.loop-partition.invariant none

pub returns-clause-left : goal.returns-clause-left
returns-clause-left g c = c.loop-partition.invariant.removes

pub returns-clause-cause : goal.returns-clause-cause
returns-clause-cause g c = c.loop-partition.invariant.cause
