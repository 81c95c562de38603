use Rattle.std.proofs.Common.{◌≡◌, ◌∙◌, ◌+◌, ◌-◌, ap, refl, sym, arith, to_z, of_z, w64}
use Rattle.std.proofs.lemmas.Int.{ints}
use Rattle.std.specs.Prelude.{min}
use Rattle.kb_tenant_state.specs.Counts.{END}
use Rattle.kb_tenant_state.specs.Parts.{scene}
use Rattle.kb_tenant_api.specs.Hosted.{kept_in}
use Rattle.kb_tenant_api.specs.Turns.{PassTopics}
use Rattle.kb_tenant_api.proofs.Moments.{retained_told}
use Rattle.kb_tenants.specs.Counts.{with_store}
use Rattle.kb_tenants.specs.Tenants.{drops, retained}
use Rattle.kb_tenants.proofs.Causes.{counted_called}
use Rattle.kb_tenants.proofs.Change.{called}
use Rattle.kb_tenants.proofs.Hosted.{alone_called, count_called, sound_here, groups_called, kept_called, topics_called, turn_called, met_called, stays_called}
use Rattle.kb_tenants.proofs.tenants.Tenants.retain_one.Goals as goal

pub retain_all-dropped-requires-clause-sound : goal.retain_all-dropped-requires-clause-sound
retain_all-dropped-requires-clause-sound g c =
    sound_here g.L.PartitionLog.log g.S.Store.disk c.args.self.now c.args.tenant c.index_mut-one.result.now c.requires.tenant c.index_mut-one.ensures.value c.requires.invariant

pub returns-clause-invariant : goal.returns-clause-invariant
returns-clause-invariant g c =
    kept_called g.L.PartitionLog.log g.S.Store.disk g.met.L.PartitionLog.lawful c.args.self.now c.args.tenant c.index_mut-one.result.now
    c.requires.tenant c.index_mut-one.ensures.value c.requires.invariant c.retain_all-dropped.new.self c.count.new.parts (min (c.refusals-before.result + (c.failures.result - c.failures-failures.result)) END) c.index_mut-one.result.now.groups c.add_store.new.self c.retain_all-dropped.new.shelf c.count.ensures (called c.retain_all-dropped.ensures.step)
    (to_z w64 (of_z w64 c.min-self.result)) (omega (arith, ints, c.min-self.ensures.self_bound))
    (λ files agrees clock le. c.next_retention_time.ensures.idle files agrees clock (omega (arith, ints, le, c.min-self.ensures.other_bound)))

pub returns-clause-turn : goal.returns-clause-turn
returns-clause-turn g c =
    turn_called g.L.PartitionLog.log g.S.Store.disk g.met.L.PartitionLog.lawful c.args.self.now c.args.tenant c.index_mut-one.result.now
    c.requires.tenant c.index_mut-one.ensures.value c.requires.invariant c.retain_all-dropped.new.self c.count.new.parts (min (c.refusals-before.result + (c.failures.result - c.failures-failures.result)) END) c.index_mut-one.result.now.groups c.add_store.new.self c.retain_all-dropped.new.shelf c.count.ensures (called c.retain_all-dropped.ensures.step)

pub returns-clause-left_alone : goal.returns-clause-left_alone
returns-clause-left_alone g c =
    alone_called g.L.PartitionLog.log g.S.Store.disk g.met.L.PartitionLog.lawful c.args.self.now c.args.tenant c.index_mut-one.result.now
    c.requires.tenant c.index_mut-one.ensures.value c.requires.invariant c.retain_all-dropped.new.self c.count.new.parts (min (c.refusals-before.result + (c.failures.result - c.failures-failures.result)) END) c.index_mut-one.result.now.groups c.add_store.new.self c.retain_all-dropped.new.shelf c.count.ensures (called c.retain_all-dropped.ensures.step)

pub returns-clause-meets : goal.returns-clause-meets
unfolding retained
returns-clause-meets g c =
    met_called g.L.PartitionLog.log g.S.Store.disk g.met.L.PartitionLog.lawful c.args.self.now c.args.tenant c.index_mut-one.result.now
    c.requires.tenant c.index_mut-one.ensures.value c.requires.invariant c.retain_all-dropped.new.self c.count.new.parts (min (c.refusals-before.result + (c.failures.result - c.failures-failures.result)) END) c.index_mut-one.result.now.groups c.add_store.new.self c.retain_all-dropped.new.shelf c.count.ensures (called c.retain_all-dropped.ensures.step)
    (λ k l. (l ≡ retained c.args.clock k) × (c.retain_all-dropped.result ≡ drops c.args.clock k))
    (λ honest agree calm. let done = c.retain_all-dropped.ensures.meets honest agree calm in (ap (λ r. kept_in r.0 c.index_mut-one.result.now.groups) done, ap (λ r. r.1) done))

pub returns-clause-partly : goal.returns-clause-partly
returns-clause-partly g c =
    let x = c.index_mut-one.result.now in
    let mid = c.retain_all-dropped.new in
    let told = retained_told (scene g.L.PartitionLog.log g.S.Store.disk x.parts c.args.self.now.shelf)
    (scene g.L.PartitionLog.log g.S.Store.disk mid.self mid.shelf) c.args.clock c.retain_all-dropped.result c.retain_all-dropped.ensures.told in (
      groups_called g.L.PartitionLog.log g.S.Store.disk g.met.L.PartitionLog.lawful c.args.self.now c.args.tenant x
          c.requires.tenant c.index_mut-one.ensures.value c.requires.invariant mid.self c.count.new.parts (min (c.refusals-before.result + (c.failures.result - c.failures-failures.result)) END) x.groups c.add_store.new.self mid.shelf c.count.ensures (called c.retain_all-dropped.ensures.step)
          (λ a b. b ≡ a) refl,
      λ honest. (
        told.0,
        topics_called g.L.PartitionLog.log g.S.Store.disk g.met.L.PartitionLog.lawful c.args.self.now c.args.tenant x
            c.requires.tenant c.index_mut-one.ensures.value c.requires.invariant mid.self c.count.new.parts (min (c.refusals-before.result + (c.failures.result - c.failures-failures.result)) END) x.groups c.add_store.new.self mid.shelf c.count.ensures (called c.retain_all-dropped.ensures.step)
            (PassTopics c.args.clock told.0) told.1 honest,
        count_called g.L.PartitionLog.log g.S.Store.disk g.met.L.PartitionLog.lawful c.args.self.now c.args.tenant x
            c.requires.tenant c.index_mut-one.ensures.value c.requires.invariant mid.self c.count.new.parts (min (c.refusals-before.result + (c.failures.result - c.failures-failures.result)) END) x.groups c.add_store.new.self mid.shelf c.count.ensures (called c.retain_all-dropped.ensures.step)
            told.0 told.2,
      ),
    )

pub returns-clause-stays : goal.returns-clause-stays
returns-clause-stays g c = λ none.
    stays_called g.L.PartitionLog.log g.S.Store.disk g.met.L.PartitionLog.lawful c.args.self.now c.args.tenant c.index_mut-one.result.now
    c.requires.tenant c.index_mut-one.ensures.value c.requires.invariant c.retain_all-dropped.new.self c.count.new.parts (min (c.refusals-before.result + (c.failures.result - c.failures-failures.result)) END) c.index_mut-one.result.now.groups c.add_store.new.self c.retain_all-dropped.new.shelf c.count.ensures (called c.retain_all-dropped.ensures.step)
    refl (c.retain_all-dropped.ensures.same none)

pub returns-clause-accounted : goal.returns-clause-accounted
returns-clause-accounted g c =
    let x = c.index_mut-one.result.now in
    let m = c.failures.result - c.failures-failures.result in
    counted_called g.L.PartitionLog.log g.S.Store.disk g.met.L.PartitionLog.lawful c.args.self.now c.args.tenant x
    c.requires.tenant c.index_mut-one.ensures.value c.requires.invariant c.retain_all-dropped.new.self c.count.new.parts
    (min (c.refusals-before.result + (c.failures.result - c.failures-failures.result)) END) c.index_mut-one.result.now.groups c.add_store.new.self c.retain_all-dropped.new.shelf c.count.ensures (called c.retain_all-dropped.ensures.step)
    m (ap (λ k. min (k + m) END) c.refusals-before.ensures)
    (omega (arith, c.failures.ensures, c.failures-failures.ensures, c.retain_all-dropped.ensures.step.frame.failures))
    (c.add_store.ensures ∙ ap (λ k. with_store (k - c.failures-failures.result) x.counts) (c.failures-2.ensures ∙ sym c.failures.ensures))
