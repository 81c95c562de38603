use Rattle.std.proofs.Common.{true, ◌+◌, ◌-◌, ◌∙◌, ap, sym, subst, arith, to_z, of_z, w64}
use Rattle.std.proofs.lemmas.Int.{ints}
use Rattle.std.specs.Prelude.{◌≤◌, ◌^◌, length, min}
use Rattle.kb_tenant_state.specs.Parts.{world_of}
use Rattle.kb_tenant_state.specs.Counts.{END, IsCalm}
use Rattle.kb_tenant_api.specs.Waiters.{AreServed, IsWaitTold}
use Rattle.kb_tenant_api.proofs.WaitersServed.{after_told}
use Rattle.kb_tenant_api.specs.Acknowledged.{AreGroupsAfter}
use Rattle.kb_tenant_api.specs.Hosted.{Kept}
use Rattle.kb_tenant_api.specs.Serve.{has_released, served, IsOutcome}
use Rattle.kb_tenant.specs.Told.{FailedBy}
use Rattle.kb_tenants.specs.Counts.{IsCountedWith, with_over, with_store}
use Rattle.kb_tenants.specs.Over.{room_for, told_by}
use Rattle.kb_tenants.specs.Tenants.{IsTruthfulFor}
use Rattle.kb_tenants.proofs.Causes.{counted_served}
use Rattle.kb_tenants.proofs.Change.{called}
use Rattle.kb_tenants.proofs.Hosted.{after, alone_called, kept_here, sound_here, stands, groups_called, kept_called, turn_called, met_called}
use Rattle.kb_tenants.proofs.Hosted.{now_called, truthful_called, calm_called, calm_from}
use Rattle.kb_tenants.proofs.Ended.{refused, unrefused}
use Rattle.kb_tenants.proofs.tenants.Tenants.serve.Goals as goal

pub serve-served-requires-clause-sound : goal.serve-served-requires-clause-sound
serve-served-requires-clause-sound g c =
    sound_here g.L.PartitionLog.log g.S.Store.disk c.args.self.now c.args.tenant c.index_mut-one.result.now c.requires.tenant c.index_mut-one.ensures.value c.requires.invariant

pub returns-clause-invariant : goal.returns-clause-invariant
returns-clause-invariant g c =
    kept_called g.L.PartitionLog.log g.S.Store.disk g.met.L.PartitionLog.lawful c.args.self.now c.args.tenant c.index_mut-one.result.now
    c.requires.tenant c.index_mut-one.ensures.value c.requires.invariant c.serve-served.new.parts c.count.new.parts (min (c.refusals-before.result + (c.failures.result - c.failures-failures.result)) END) c.serve-served.new.groups c.add_over.new.self c.serve-served.new.shelf c.count.ensures (called c.serve-served.ensures.step)
    (to_z w64 (of_z w64 c.min-self.result)) (omega (arith, ints, c.min-self.ensures.self_bound))
    (λ files agrees clock le. c.next_retention_time.ensures.idle files agrees clock (omega (arith, ints, le, c.min-self.ensures.other_bound)))

pub returns-clause-turn : goal.returns-clause-turn
returns-clause-turn g c =
    turn_called g.L.PartitionLog.log g.S.Store.disk g.met.L.PartitionLog.lawful c.args.self.now c.args.tenant c.index_mut-one.result.now
    c.requires.tenant c.index_mut-one.ensures.value c.requires.invariant c.serve-served.new.parts c.count.new.parts (min (c.refusals-before.result + (c.failures.result - c.failures-failures.result)) END) c.serve-served.new.groups c.add_over.new.self c.serve-served.new.shelf c.count.ensures (called c.serve-served.ensures.step)

pub returns-clause-left_alone : goal.returns-clause-left_alone
returns-clause-left_alone g c =
    alone_called g.L.PartitionLog.log g.S.Store.disk g.met.L.PartitionLog.lawful c.args.self.now c.args.tenant c.index_mut-one.result.now
    c.requires.tenant c.index_mut-one.ensures.value c.requires.invariant c.serve-served.new.parts c.count.new.parts (min (c.refusals-before.result + (c.failures.result - c.failures-failures.result)) END) c.serve-served.new.groups c.add_over.new.self c.serve-served.new.shelf c.count.ensures (called c.serve-served.ensures.step)

pub returns-clause-meets : goal.returns-clause-meets
returns-clause-meets g c =
    let r = c.args.request.now in
    met_called g.L.PartitionLog.log g.S.Store.disk g.met.L.PartitionLog.lawful c.args.self.now c.args.tenant c.index_mut-one.result.now
    c.requires.tenant c.index_mut-one.ensures.value c.requires.invariant c.serve-served.new.parts c.count.new.parts (min (c.refusals-before.result + (c.failures.result - c.failures-failures.result)) END) c.serve-served.new.groups c.add_over.new.self c.serve-served.new.shelf c.count.ensures (called c.serve-served.ensures.step)
    (λ k l. IsOutcome r.correlation_id (served c.args.node.now k.world c.args.clock k.groups r.connection r.api_key r.api_version r.body.now) l.world l.groups c.serve-served.result.touched.items c.serve-served.result.answer)
    c.serve-served.ensures.meets

pub returns-clause-released : goal.returns-clause-released
returns-clause-released g c =
    let now = now_called g.L.PartitionLog.log g.S.Store.disk g.met.L.PartitionLog.lawful c.args.self.now c.args.tenant c.index_mut-one.result.now
    c.requires.tenant c.index_mut-one.ensures.value c.requires.invariant c.serve-served.new.parts c.count.new.parts (min (c.refusals-before.result + (c.failures.result - c.failures-failures.result)) END) c.serve-served.new.groups c.add_over.new.self c.serve-served.new.shelf c.count.ensures (called c.serve-served.ensures.step) in
    c.serve-served.ensures.released ∙ ap (λ k. has_released k.groups) (sym now)

pub returns-clause-waits : goal.returns-clause-waits
returns-clause-waits g c =
    let r = c.args.request.now in
    let gs = c.index_mut-one.result.now.groups in
    let w = world_of g.L.PartitionLog.log c.index_mut-one.result.now.parts (g.S.Store.disk c.args.self.now.shelf.store).files in
    groups_called g.L.PartitionLog.log g.S.Store.disk g.met.L.PartitionLog.lawful c.args.self.now c.args.tenant c.index_mut-one.result.now
    c.requires.tenant c.index_mut-one.ensures.value c.requires.invariant c.serve-served.new.parts c.count.new.parts (min (c.refusals-before.result + (c.failures.result - c.failures-failures.result)) END) c.serve-served.new.groups c.add_over.new.self c.serve-served.new.shelf c.count.ensures (called c.serve-served.ensures.step)
    (AreServed r.connection true)
    (after_told c.args.node.now w c.args.clock gs r.connection r.api_key r.api_version r.body.now c.serve-served.result.answer c.serve-served.new.groups c.serve-served.ensures.groups)

pub returns-clause-told : goal.returns-clause-told
returns-clause-told g c =
    let n = c.args.request.now.connection in
    groups_called g.L.PartitionLog.log g.S.Store.disk g.met.L.PartitionLog.lawful c.args.self.now c.args.tenant c.index_mut-one.result.now
    c.requires.tenant c.index_mut-one.ensures.value c.requires.invariant c.serve-served.new.parts c.count.new.parts (min (c.refusals-before.result + (c.failures.result - c.failures-failures.result)) END) c.serve-served.new.groups c.add_over.new.self c.serve-served.new.shelf c.count.ensures (called c.serve-served.ensures.step)
    (λ old new. IsWaitTold n old c.serve-served.result.answer new) c.serve-served.ensures.waits

pub returns-clause-truthful : goal.returns-clause-truthful
returns-clause-truthful g c =
    let r = c.args.request.now in
    let disk = g.S.Store.disk in
    let old = c.args.self.now in
    let shelf = c.serve-served.new.shelf in
    let failures = c.failures.result - c.failures-failures.result in
    let failed = FailedBy (disk old.shelf.store).failures (disk shelf.store).failures shelf.next in
    let served = c.serve-served.result in
    truthful_called g.L.PartitionLog.log disk g.met.L.PartitionLog.lawful old c.args.tenant c.index_mut-one.result.now
    c.requires.tenant c.index_mut-one.ensures.value c.requires.invariant c.serve-served.new.parts c.count.new.parts
    (min (c.refusals-before.result + failures) END) c.serve-served.new.groups c.add_over.new.self shelf c.count.ensures (called c.serve-served.ensures.step)
    (λ n k l. IsTruthfulFor failed (2 ^ 63 ≤ n + 1) c.args.node.now c.args.clock r.connection r.api_key r.api_version
    r.correlation_id r.body.now k l served.touched.items served.answer)
    c.serve-served.ensures.told

pub returns-clause-groups : goal.returns-clause-groups
returns-clause-groups g c =
    let r = c.args.request.now in
    truthful_called g.L.PartitionLog.log g.S.Store.disk g.met.L.PartitionLog.lawful c.args.self.now c.args.tenant c.index_mut-one.result.now
    c.requires.tenant c.index_mut-one.ensures.value c.requires.invariant c.serve-served.new.parts c.count.new.parts
    (min (c.refusals-before.result + (c.failures.result - c.failures-failures.result)) END) c.serve-served.new.groups
    c.add_over.new.self c.serve-served.new.shelf c.count.ensures (called c.serve-served.ensures.step)
    (λ n k l. AreGroupsAfter r.api_key k.groups (served c.args.node.now k.world c.args.clock k.groups r.connection r.api_key r.api_version
    r.body.now).groups c.serve-served.result.answer l.groups)
    (λ honest agree. c.serve-served.ensures.groups)

pub returns-clause-calm : goal.returns-clause-calm
returns-clause-calm g c = λ quiet.
    calm_called g.L.PartitionLog.log g.S.Store.disk g.met.L.PartitionLog.lawful c.args.self.now c.args.tenant c.index_mut-one.result.now
    c.requires.tenant c.index_mut-one.ensures.value c.requires.invariant c.serve-served.new.parts c.count.new.parts (min (c.refusals-before.result + (c.failures.result - c.failures-failures.result)) END) c.serve-served.new.groups c.add_over.new.self c.serve-served.new.shelf c.count.ensures (called c.serve-served.ensures.step)
    (subst (λ n. IsCalm n c.count.new.parts.refusals) c.refusals-before.ensures (c.is_calm-refused.ensures.calm (unrefused c.is_calm-refused.result quiet)))

pub returns-clause-loud : goal.returns-clause-loud
returns-clause-loud g c = λ loud calm.
    c.is_calm-refused.ensures.not (refused c.is_calm-refused.result loud) (subst (λ n. IsCalm n c.count.new.parts.refusals) (sym c.refusals-before.ensures)
    (calm_from g.L.PartitionLog.log g.S.Store.disk g.met.L.PartitionLog.lawful c.args.self.now c.args.tenant c.index_mut-one.result.now
    c.requires.tenant c.index_mut-one.ensures.value c.requires.invariant c.serve-served.new.parts c.count.new.parts (min (c.refusals-before.result + (c.failures.result - c.failures-failures.result)) END) c.serve-served.new.groups c.add_over.new.self c.serve-served.new.shelf c.count.ensures (called c.serve-served.ensures.step) calm))

pub returns-clause-accounted : goal.returns-clause-accounted
returns-clause-accounted g c =
    let log = g.L.PartitionLog.log in
    let disk = g.S.Store.disk in
    let old = c.args.self.now in
    let t = c.args.tenant in
    let r = c.args.request.now in
    let limits = c.args.node.now.limits in
    let x = c.index_mut-one.result.now in
    let m = c.failures.result - c.failures-failures.result in
    let n = min (c.refusals-before.result + m) END in
    let new = after old t x c.count.new.parts c.serve-served.new.groups c.add_over.new.self c.serve-served.new.shelf in
    let files = (disk old.shelf.store).files in
    let kept = kept_here log files old.tenants.items t x (stands log disk old t x c.requires.tenant c.index_mut-one.ensures.value) in
    let topics = c.topic_count.ensures files ∙ sym (ap (λ (k : Kept). length k.world.known.topics) kept) in
    let room = c.room_for-room.ensures ∙ ap (room_for limits) topics in
    let told = c.told_by.ensures ∙ ap (λ k. told_by k r.api_key r.api_version c.serve-served.result.answer) room in
    subst (λ over. IsCountedWith over log disk t old new) told
    (counted_served log disk g.met.L.PartitionLog.lawful old t x
    c.requires.tenant c.index_mut-one.ensures.value c.requires.invariant c.serve-served.new.parts c.count.new.parts
    n c.serve-served.new.groups c.add_over.new.self c.serve-served.new.shelf c.count.ensures (called c.serve-served.ensures.step)
    m c.told_by.result (ap (λ k. min (k + m) END) c.refusals-before.ensures)
    (omega (arith, c.failures.ensures, c.failures-failures.ensures, c.serve-served.ensures.step.frame.failures))
    (c.add_over.ensures ∙ ap (with_over c.told_by.result) (c.add_store.ensures ∙ ap (λ k. with_store (k - c.failures-failures.result) x.counts) (c.failures-2.ensures ∙ sym c.failures.ensures))))
