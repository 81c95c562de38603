use Rattle.std.proofs.Common.{◌≡◌, ◌∙◌, ◌+◌, ◌-◌, ◌<◌, ap, refl, subst, sym, arith}
use Rattle.std.specs.Prelude.{min}
use Rattle.kb_tenant_state.specs.Counts.{END, IsCalm}
use Rattle.kb_tenant_api.specs.Hosted.{kept_in, kept_of}
use Rattle.kb_tenant.specs.Replies.{IsAnswer}
use Rattle.kb_tenant.specs.Serve.{looked}
use Rattle.kb_tenant.specs.Told.{AnswersLook, FailedBy}
use Rattle.kb_tenants.specs.Counts.{with_store}
use Rattle.kb_tenants.proofs.Causes.{counted_called}
use Rattle.kb_tenants.proofs.Ended.{ended_told}
use Rattle.kb_tenants.specs.Tenants.{hosted}
use Rattle.kb_tenants.proofs.Change.{called}
use Rattle.kb_tenants.proofs.Hosted.{alone_called, sound_here, kept_stay_called, turn_called, met_called, stays_called, told_called, calm_called, calm_from}
use Rattle.kb_tenants.proofs.tenants.Tenants.look.Goals as goal

pub look-answer-requires : goal.look-answer-requires
look-answer-requires g c =
    sound_here g.L.PartitionLog.log g.S.Store.disk c.args.self.now c.args.tenant c.index_mut-one.result.now c.requires.tenant c.index_mut-one.ensures.value c.requires.invariant

-- ---- nothing was refused

pub returns-then-is_calm-clause-invariant : goal.returns-then-is_calm-clause-invariant
returns-then-is_calm-clause-invariant g c =
    kept_stay_called g.L.PartitionLog.log g.S.Store.disk g.met.L.PartitionLog.lawful c.args.self.now c.args.tenant c.index_mut-one.result.now
    c.requires.tenant c.index_mut-one.ensures.value c.requires.invariant c.look-answer.new.parts c.count.new.parts (min (c.refusals-before.result + (c.failures.result - c.failures-failures.result)) END) c.index_mut-one.result.now.groups c.add_store.new.self c.look-answer.new.shelf c.count.ensures (called c.look-answer.ensures.step) refl c.look-answer.ensures.same

pub returns-then-is_calm-clause-turn : goal.returns-then-is_calm-clause-turn
returns-then-is_calm-clause-turn g c =
    turn_called g.L.PartitionLog.log g.S.Store.disk g.met.L.PartitionLog.lawful c.args.self.now c.args.tenant c.index_mut-one.result.now
    c.requires.tenant c.index_mut-one.ensures.value c.requires.invariant c.look-answer.new.parts c.count.new.parts (min (c.refusals-before.result + (c.failures.result - c.failures-failures.result)) END) c.index_mut-one.result.now.groups c.add_store.new.self c.look-answer.new.shelf c.count.ensures (called c.look-answer.ensures.step)

pub returns-then-is_calm-clause-left_alone : goal.returns-then-is_calm-clause-left_alone
returns-then-is_calm-clause-left_alone g c =
    alone_called g.L.PartitionLog.log g.S.Store.disk g.met.L.PartitionLog.lawful c.args.self.now c.args.tenant c.index_mut-one.result.now
    c.requires.tenant c.index_mut-one.ensures.value c.requires.invariant c.look-answer.new.parts c.count.new.parts (min (c.refusals-before.result + (c.failures.result - c.failures-failures.result)) END) c.index_mut-one.result.now.groups c.add_store.new.self c.look-answer.new.shelf c.count.ensures (called c.look-answer.ensures.step)

pub returns-then-is_calm-clause-meets : goal.returns-then-is_calm-clause-meets
returns-then-is_calm-clause-meets g c =
    let wait = c.args.wait.now in
    met_called g.L.PartitionLog.log g.S.Store.disk g.met.L.PartitionLog.lawful c.args.self.now c.args.tenant c.index_mut-one.result.now
    c.requires.tenant c.index_mut-one.ensures.value c.requires.invariant c.look-answer.new.parts c.count.new.parts (min (c.refusals-before.result + (c.failures.result - c.failures-failures.result)) END) c.index_mut-one.result.now.groups c.add_store.new.self c.look-answer.new.shelf c.count.ensures (called c.look-answer.ensures.step)
    (λ k l. (l ≡ k) × IsAnswer wait.correlation_id (looked k.world c.args.clock wait.deadline wait.fetch.now.version wait.fetch.now.limit wait.fetch.now.body) c.look-answer.result)
    (λ honest agree calm. let done = c.look-answer.ensures.meets honest agree calm in (ap (λ w. kept_in w c.index_mut-one.result.now.groups) done.0, done.1))

pub returns-then-is_calm-clause-told : goal.returns-then-is_calm-clause-told
returns-then-is_calm-clause-told g c =
    let disk = g.S.Store.disk in
    let wait = c.args.wait.now in
    let shelf = c.look-answer.new.shelf in
    let failed = FailedBy (disk c.args.self.now.shelf.store).failures (disk shelf.store).failures shelf.next in
    told_called g.L.PartitionLog.log disk g.met.L.PartitionLog.lawful c.args.self.now c.args.tenant c.index_mut-one.result.now
    c.requires.tenant c.index_mut-one.ensures.value c.requires.invariant c.look-answer.new.parts c.count.new.parts (min (c.refusals-before.result + (c.failures.result - c.failures-failures.result)) END) c.index_mut-one.result.now.groups c.add_store.new.self shelf c.count.ensures (called c.look-answer.ensures.step)
    (λ w. AnswersLook failed wait.correlation_id wait.fetch.now.version wait.fetch.now.limit w c.args.clock wait.deadline wait.fetch.now.body c.look-answer.result)
    c.look-answer.ensures.told

pub returns-then-is_calm-clause-stays : goal.returns-then-is_calm-clause-stays
returns-then-is_calm-clause-stays g c =
    stays_called g.L.PartitionLog.log g.S.Store.disk g.met.L.PartitionLog.lawful c.args.self.now c.args.tenant c.index_mut-one.result.now
    c.requires.tenant c.index_mut-one.ensures.value c.requires.invariant c.look-answer.new.parts c.count.new.parts (min (c.refusals-before.result + (c.failures.result - c.failures-failures.result)) END) c.index_mut-one.result.now.groups c.add_store.new.self c.look-answer.new.shelf c.count.ensures (called c.look-answer.ensures.step) refl c.look-answer.ensures.same

pub returns-then-is_calm-clause-answered : goal.returns-then-is_calm-clause-answered
returns-then-is_calm-clause-answered g c = λ loud. absurd (loud
    (calm_called g.L.PartitionLog.log g.S.Store.disk g.met.L.PartitionLog.lawful c.args.self.now c.args.tenant c.index_mut-one.result.now
    c.requires.tenant c.index_mut-one.ensures.value c.requires.invariant c.look-answer.new.parts c.count.new.parts (min (c.refusals-before.result + (c.failures.result - c.failures-failures.result)) END) c.index_mut-one.result.now.groups c.add_store.new.self c.look-answer.new.shelf c.count.ensures (called c.look-answer.ensures.step)
    (subst (λ n. IsCalm n c.count.new.parts.refusals) c.refusals-before.ensures (c.is_calm.ensures.calm c.if-is_calm.true))))

-- ---- something was refused, or the count is at its end

pub returns-else-is_calm-clause-invariant : goal.returns-else-is_calm-clause-invariant
returns-else-is_calm-clause-invariant g c =
    kept_stay_called g.L.PartitionLog.log g.S.Store.disk g.met.L.PartitionLog.lawful c.args.self.now c.args.tenant c.index_mut-one.result.now
    c.requires.tenant c.index_mut-one.ensures.value c.requires.invariant c.look-answer.new.parts c.count.new.parts (min (c.refusals-before.result + (c.failures.result - c.failures-failures.result)) END) c.index_mut-one.result.now.groups c.add_store.new.self c.look-answer.new.shelf c.count.ensures (called c.look-answer.ensures.step) refl c.look-answer.ensures.same

pub returns-else-is_calm-clause-turn : goal.returns-else-is_calm-clause-turn
returns-else-is_calm-clause-turn g c =
    turn_called g.L.PartitionLog.log g.S.Store.disk g.met.L.PartitionLog.lawful c.args.self.now c.args.tenant c.index_mut-one.result.now
    c.requires.tenant c.index_mut-one.ensures.value c.requires.invariant c.look-answer.new.parts c.count.new.parts (min (c.refusals-before.result + (c.failures.result - c.failures-failures.result)) END) c.index_mut-one.result.now.groups c.add_store.new.self c.look-answer.new.shelf c.count.ensures (called c.look-answer.ensures.step)

pub returns-else-is_calm-clause-left_alone : goal.returns-else-is_calm-clause-left_alone
returns-else-is_calm-clause-left_alone g c =
    alone_called g.L.PartitionLog.log g.S.Store.disk g.met.L.PartitionLog.lawful c.args.self.now c.args.tenant c.index_mut-one.result.now
    c.requires.tenant c.index_mut-one.ensures.value c.requires.invariant c.look-answer.new.parts c.count.new.parts (min (c.refusals-before.result + (c.failures.result - c.failures-failures.result)) END) c.index_mut-one.result.now.groups c.add_store.new.self c.look-answer.new.shelf c.count.ensures (called c.look-answer.ensures.step)

pub returns-else-is_calm-clause-meets : goal.returns-else-is_calm-clause-meets
returns-else-is_calm-clause-meets g c = λ honest seen.
    let calm = calm_from g.L.PartitionLog.log g.S.Store.disk g.met.L.PartitionLog.lawful c.args.self.now c.args.tenant c.index_mut-one.result.now
    c.requires.tenant c.index_mut-one.ensures.value c.requires.invariant c.look-answer.new.parts c.count.new.parts (min (c.refusals-before.result + (c.failures.result - c.failures-failures.result)) END) c.index_mut-one.result.now.groups c.add_store.new.self c.look-answer.new.shelf c.count.ensures (called c.look-answer.ensures.step) seen in
    absurd (c.is_calm.ensures.not c.if-is_calm.false (subst (λ n. IsCalm n c.count.new.parts.refusals) (sym c.refusals-before.ensures) calm))

pub returns-else-is_calm-clause-told : goal.returns-else-is_calm-clause-told
returns-else-is_calm-clause-told g c = λ honest.
    let disk = g.S.Store.disk in
    let wait = c.args.wait.now in
    let shelf = c.look-answer.new.shelf in
    let failed = FailedBy (disk c.args.self.now.shelf.store).failures (disk shelf.store).failures shelf.next in
    let kept = kept_of (hosted g.L.PartitionLog.log disk c.args.self.now) c.args.tenant in
    ended_told failed wait.correlation_id wait.fetch.now.version wait.fetch.now.limit kept.world c.args.clock wait.deadline wait.fetch.now.body c.look-answer.result
    c.ended.result c.ended.ensures.is
    (told_called g.L.PartitionLog.log disk g.met.L.PartitionLog.lawful c.args.self.now c.args.tenant c.index_mut-one.result.now
    c.requires.tenant c.index_mut-one.ensures.value c.requires.invariant c.look-answer.new.parts c.count.new.parts (min (c.refusals-before.result + (c.failures.result - c.failures-failures.result)) END) c.index_mut-one.result.now.groups c.add_store.new.self shelf c.count.ensures (called c.look-answer.ensures.step)
    (λ w. AnswersLook failed wait.correlation_id wait.fetch.now.version wait.fetch.now.limit w c.args.clock wait.deadline wait.fetch.now.body c.look-answer.result)
    c.look-answer.ensures.told honest)

pub returns-else-is_calm-clause-stays : goal.returns-else-is_calm-clause-stays
returns-else-is_calm-clause-stays g c =
    stays_called g.L.PartitionLog.log g.S.Store.disk g.met.L.PartitionLog.lawful c.args.self.now c.args.tenant c.index_mut-one.result.now
    c.requires.tenant c.index_mut-one.ensures.value c.requires.invariant c.look-answer.new.parts c.count.new.parts (min (c.refusals-before.result + (c.failures.result - c.failures-failures.result)) END) c.index_mut-one.result.now.groups c.add_store.new.self c.look-answer.new.shelf c.count.ensures (called c.look-answer.ensures.step) refl c.look-answer.ensures.same

pub returns-then-is_calm-clause-accounted : goal.returns-then-is_calm-clause-accounted
returns-then-is_calm-clause-accounted g c =
    let x = c.index_mut-one.result.now in
    let m = c.failures.result - c.failures-failures.result in
    counted_called g.L.PartitionLog.log g.S.Store.disk g.met.L.PartitionLog.lawful c.args.self.now c.args.tenant x
    c.requires.tenant c.index_mut-one.ensures.value c.requires.invariant c.look-answer.new.parts c.count.new.parts
    (min (c.refusals-before.result + (c.failures.result - c.failures-failures.result)) END) x.groups c.add_store.new.self c.look-answer.new.shelf c.count.ensures (called c.look-answer.ensures.step)
    m (ap (λ k. min (k + m) END) c.refusals-before.ensures)
    (omega (arith, c.failures.ensures, c.failures-failures.ensures, c.look-answer.ensures.step.frame.failures))
    (c.add_store.ensures ∙ ap (λ k. with_store (k - c.failures-failures.result) x.counts) (c.failures-2.ensures ∙ sym c.failures.ensures))

pub returns-else-is_calm-clause-accounted : goal.returns-else-is_calm-clause-accounted
returns-else-is_calm-clause-accounted g c =
    let x = c.index_mut-one.result.now in
    let m = c.failures.result - c.failures-failures.result in
    counted_called g.L.PartitionLog.log g.S.Store.disk g.met.L.PartitionLog.lawful c.args.self.now c.args.tenant x
    c.requires.tenant c.index_mut-one.ensures.value c.requires.invariant c.look-answer.new.parts c.count.new.parts
    (min (c.refusals-before.result + (c.failures.result - c.failures-failures.result)) END) x.groups c.add_store.new.self c.look-answer.new.shelf c.count.ensures (called c.look-answer.ensures.step)
    m (ap (λ k. min (k + m) END) c.refusals-before.ensures)
    (omega (arith, c.failures.ensures, c.failures-failures.ensures, c.look-answer.ensures.step.frame.failures))
    (c.add_store.ensures ∙ ap (λ k. with_store (k - c.failures-failures.result) x.counts) (c.failures-2.ensures ∙ sym c.failures.ensures))
