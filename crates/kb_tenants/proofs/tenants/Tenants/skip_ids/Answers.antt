use Rattle.std.proofs.Common.{◌≡◌, ◌∙◌, ◌+◌, ◌-◌, ◌^◌, ◌≤◌, Err, ap, refl, subst, sym, arith, to_z, of_z, w64}
use Rattle.std.proofs.lemmas.Int.{ints}
use Rattle.std.specs.Prelude.{OnErr, Result, min}
use Rattle.kb_topics.specs.declared.fault.CatalogFault.{CatalogFault}
use Rattle.kb_tenant.specs.Told.{FailedBy}
use Rattle.kb_tenant_state.specs.Counts.{END}
use Rattle.kb_tenant_state.specs.Ids.{Skips}
use Rattle.kb_tenant_state.specs.Parts.{scene}
use Rattle.kb_tenants.specs.Counts.{with_store}
use Rattle.kb_tenants.specs.Ids.{KeepsSkipped}
use Rattle.kb_tenants.proofs.Causes.{counted_called}
use Rattle.kb_tenants.proofs.Change.{called}
use Rattle.kb_tenants.proofs.Hosted.{alone_called, calm_from, sound_here, groups_called, kept_called, truthful_called, turn_called}
use Rattle.kb_tenants.proofs.Skipped.{each_err, skipped_kept, skipped_loud}
use Rattle.kb_tenants.proofs.tenants.Tenants.skip_ids.Goals as goal

pub skip_ids-skipped-requires : goal.skip_ids-skipped-requires
skip_ids-skipped-requires g c =
    sound_here g.L.PartitionLog.log g.S.Store.disk c.args.self.now c.args.tenant c.index_mut-one.result.now c.requires.tenant c.index_mut-one.ensures.value c.requires.invariant

pub returns-clause-invariant : goal.returns-clause-invariant
returns-clause-invariant g c =
    kept_called g.L.PartitionLog.log g.S.Store.disk g.met.L.PartitionLog.lawful c.args.self.now c.args.tenant c.index_mut-one.result.now
    c.requires.tenant c.index_mut-one.ensures.value c.requires.invariant c.skip_ids-skipped.new.self c.count.new.parts (min (c.refusals-before.result + (c.failures.result - c.failures-failures.result)) END) c.index_mut-one.result.now.groups c.add_store.new.self c.skip_ids-skipped.new.shelf c.count.ensures (called c.skip_ids-skipped.ensures.step)
    (to_z w64 (of_z w64 c.min-self.result)) (omega (arith, ints, c.min-self.ensures.self_bound))
    (λ files agrees clock le. c.next_retention_time.ensures.idle files agrees clock (omega (arith, ints, le, c.min-self.ensures.other_bound)))

pub returns-clause-turn : goal.returns-clause-turn
returns-clause-turn g c =
    turn_called g.L.PartitionLog.log g.S.Store.disk g.met.L.PartitionLog.lawful c.args.self.now c.args.tenant c.index_mut-one.result.now
    c.requires.tenant c.index_mut-one.ensures.value c.requires.invariant c.skip_ids-skipped.new.self c.count.new.parts (min (c.refusals-before.result + (c.failures.result - c.failures-failures.result)) END) c.index_mut-one.result.now.groups c.add_store.new.self c.skip_ids-skipped.new.shelf c.count.ensures (called c.skip_ids-skipped.ensures.step)

pub returns-clause-left_alone : goal.returns-clause-left_alone
returns-clause-left_alone g c =
    alone_called g.L.PartitionLog.log g.S.Store.disk g.met.L.PartitionLog.lawful c.args.self.now c.args.tenant c.index_mut-one.result.now
    c.requires.tenant c.index_mut-one.ensures.value c.requires.invariant c.skip_ids-skipped.new.self c.count.new.parts (min (c.refusals-before.result + (c.failures.result - c.failures-failures.result)) END) c.index_mut-one.result.now.groups c.add_store.new.self c.skip_ids-skipped.new.shelf c.count.ensures (called c.skip_ids-skipped.ensures.step)

pub returns-clause-groups : goal.returns-clause-groups
returns-clause-groups g c =
    groups_called g.L.PartitionLog.log g.S.Store.disk g.met.L.PartitionLog.lawful c.args.self.now c.args.tenant c.index_mut-one.result.now
    c.requires.tenant c.index_mut-one.ensures.value c.requires.invariant c.skip_ids-skipped.new.self c.count.new.parts (min (c.refusals-before.result + (c.failures.result - c.failures-failures.result)) END) c.index_mut-one.result.now.groups c.add_store.new.self c.skip_ids-skipped.new.shelf c.count.ensures (called c.skip_ids-skipped.ensures.step)
    (λ a b. b ≡ a) refl

pub returns-clause-skipped : goal.returns-clause-skipped
returns-clause-skipped g c =
    let log = g.L.PartitionLog.log in
    let disk = g.S.Store.disk in
    let x = c.index_mut-one.result.now in
    truthful_called g.L.PartitionLog.log g.S.Store.disk g.met.L.PartitionLog.lawful c.args.self.now c.args.tenant c.index_mut-one.result.now
    c.requires.tenant c.index_mut-one.ensures.value c.requires.invariant c.skip_ids-skipped.new.self c.count.new.parts (min (c.refusals-before.result + (c.failures.result - c.failures-failures.result)) END) c.index_mut-one.result.now.groups c.add_store.new.self c.skip_ids-skipped.new.shelf c.count.ensures (called c.skip_ids-skipped.ensures.step)
    (λ n k l. KeepsSkipped (FailedBy (disk c.args.self.now.shelf.store).failures (disk c.skip_ids-skipped.new.shelf.store).failures c.skip_ids-skipped.new.shelf.next) (2 ^ 63 ≤ n + 1) c.skip_ids-skipped.result k l)
    (skipped_kept (scene log disk x.parts c.args.self.now.shelf) (scene log disk c.skip_ids-skipped.new.self c.skip_ids-skipped.new.shelf) x.groups c.skip_ids-skipped.result c.skip_ids-skipped.ensures.told)

pub returns-clause-counted : goal.returns-clause-counted
returns-clause-counted g c =
    let log = g.L.PartitionLog.log in
    let disk = g.S.Store.disk in
    let x = c.index_mut-one.result.now in
    let more = ap (λ p. p.refusals) c.count.ensures in
    each_err c.skip_ids-skipped.result (λ f is calm.
    skipped_loud (scene log disk x.parts c.args.self.now.shelf) (scene log disk c.skip_ids-skipped.new.self c.skip_ids-skipped.new.shelf) f c.count.new.parts.refusals
    (subst (Skips (scene log disk x.parts c.args.self.now.shelf) (scene log disk c.skip_ids-skipped.new.self c.skip_ids-skipped.new.shelf)) is c.skip_ids-skipped.ensures.told)
    (omega (arith, more))
    (calm_from g.L.PartitionLog.log g.S.Store.disk g.met.L.PartitionLog.lawful c.args.self.now c.args.tenant c.index_mut-one.result.now
    c.requires.tenant c.index_mut-one.ensures.value c.requires.invariant c.skip_ids-skipped.new.self c.count.new.parts (min (c.refusals-before.result + (c.failures.result - c.failures-failures.result)) END) c.index_mut-one.result.now.groups c.add_store.new.self c.skip_ids-skipped.new.shelf c.count.ensures (called c.skip_ids-skipped.ensures.step) calm))

pub returns-clause-accounted : goal.returns-clause-accounted
returns-clause-accounted g c =
    let x = c.index_mut-one.result.now in
    let m = c.failures.result - c.failures-failures.result in
    counted_called g.L.PartitionLog.log g.S.Store.disk g.met.L.PartitionLog.lawful c.args.self.now c.args.tenant c.index_mut-one.result.now
    c.requires.tenant c.index_mut-one.ensures.value c.requires.invariant c.skip_ids-skipped.new.self c.count.new.parts (min (c.refusals-before.result + (c.failures.result - c.failures-failures.result)) END) c.index_mut-one.result.now.groups c.add_store.new.self c.skip_ids-skipped.new.shelf c.count.ensures (called c.skip_ids-skipped.ensures.step)
    m (ap (λ k. min (k + m) END) c.refusals-before.ensures)
    (omega (arith, c.failures.ensures, c.failures-failures.ensures, c.skip_ids-skipped.ensures.step.frame.failures))
    (c.add_store.ensures ∙ ap (λ k. with_store (k - c.failures-failures.result) x.counts) (c.failures-2.ensures ∙ sym c.failures.ensures))
