use Rattle.std.proofs.Common.{◌+◌, inl, inr, refl, ap, arith, to_z, of_z, w64}
use Rattle.std.proofs.lemmas.Int.{ints}
use Rattle.std.specs.Prelude.{min}
use Rattle.kb_tenant_state.specs.Counts.{END}
use Rattle.kb_tenant_api.specs.Hosted.{Kept}
use Rattle.kb_tenant_api.specs.Turns.{PassGroups}
use Rattle.kb_tenants.proofs.Causes.{counted_counted, counted_own}
use Rattle.kb_tenants.proofs.Hosted.{count_counted, count_own, groups_counted, kept_counted, kept_own, met_counted, met_own, passed_own, stays_own, topics_counted, turn_counted}
use Rattle.kb_tenants.proofs.tenants.Tenants.pass_groups.Goals as goal

-- ---- nothing was due

pub returns-in_default-clause-invariant : goal.returns-in_default-clause-invariant
returns-in_default-clause-invariant g c =
    kept_own g.L.PartitionLog.log g.S.Store.disk g.met.L.PartitionLog.lawful c.args.self.now c.args.tenant c.index_mut-one.result.now c.pass.new.self
    c.requires.tenant c.index_mut-one.ensures.value c.requires.invariant c.in_default.ensures.none.1

pub returns-in_default-clause-meets : goal.returns-in_default-clause-meets
returns-in_default-clause-meets g c =
    met_own g.L.PartitionLog.log g.S.Store.disk g.met.L.PartitionLog.lawful c.args.self.now c.args.tenant c.index_mut-one.result.now c.pass.new.self
    c.requires.tenant c.index_mut-one.ensures.value c.requires.invariant c.in_default.ensures.none.1
    c.args.clock c.in_default.ensures.none.0

pub returns-in_default-clause-topics : goal.returns-in_default-clause-topics
returns-in_default-clause-topics g c =
    ap (λ (k : Kept). k.world) (stays_own g.L.PartitionLog.log g.S.Store.disk g.met.L.PartitionLog.lawful c.args.self.now c.args.tenant c.index_mut-one.result.now c.pass.new.self
    c.requires.tenant c.index_mut-one.ensures.value c.requires.invariant c.in_default.ensures.none.1 c.args.tenant)

pub returns-in_default-clause-partly : goal.returns-in_default-clause-partly
returns-in_default-clause-partly g c = (
  0,
  inl (
    refl,
    passed_own g.L.PartitionLog.log g.S.Store.disk g.met.L.PartitionLog.lawful c.args.self.now c.args.tenant c.index_mut-one.result.now c.pass.new.self
        c.requires.tenant c.index_mut-one.ensures.value c.requires.invariant c.in_default.ensures.none.1
        c.args.clock c.in_default.ensures.none.0,
  ),
  count_own g.L.PartitionLog.log g.S.Store.disk g.met.L.PartitionLog.lawful c.args.self.now c.args.tenant c.index_mut-one.result.now c.pass.new.self
      c.requires.tenant c.index_mut-one.ensures.value c.requires.invariant c.in_default.ensures.none.1,
)

pub returns-in_default-clause-accounted : goal.returns-in_default-clause-accounted
returns-in_default-clause-accounted g c =
    counted_own g.L.PartitionLog.log g.S.Store.disk g.met.L.PartitionLog.lawful c.args.self.now c.args.tenant c.index_mut-one.result.now c.pass.new.self
    c.requires.tenant c.index_mut-one.ensures.value c.requires.invariant c.in_default.ensures.none.1

-- ---- a moment

pub returns-clause-partly : goal.returns-clause-partly
returns-clause-partly g c = (
  c.in-Some.refused,
  groups_counted g.L.PartitionLog.log g.S.Store.disk g.met.L.PartitionLog.lawful c.args.self.now c.args.tenant c.index_mut-one.result.now c.pass.new.self
      c.requires.tenant c.index_mut-one.ensures.value c.requires.invariant c.count.new.parts
      (min (c.refusals-before.result + c.in-Some.refused) END) c.count.ensures
      (PassGroups c.args.clock c.in-Some.refused) (inr (c.in-Some.ensures.due, c.in-Some.ensures.groups, c.pass.ensures.members, c.pass.ensures.limits)),
  count_counted g.L.PartitionLog.log g.S.Store.disk g.met.L.PartitionLog.lawful c.args.self.now c.args.tenant c.index_mut-one.result.now c.pass.new.self
      c.requires.tenant c.index_mut-one.ensures.value c.requires.invariant c.count.new.parts
      (min (c.refusals-before.result + c.in-Some.refused) END) c.count.ensures
      c.in-Some.refused (ap (λ k. min (k + c.in-Some.refused) END) c.refusals-before.ensures),
)

pub returns-clause-topics : goal.returns-clause-topics
returns-clause-topics g c =
    topics_counted g.L.PartitionLog.log g.S.Store.disk g.met.L.PartitionLog.lawful c.args.self.now c.args.tenant c.index_mut-one.result.now c.pass.new.self
    c.requires.tenant c.index_mut-one.ensures.value c.requires.invariant c.count.new.parts
    (min (c.refusals-before.result + c.in-Some.refused) END) c.count.ensures

pub returns-clause-invariant : goal.returns-clause-invariant
returns-clause-invariant g c =
    kept_counted g.L.PartitionLog.log g.S.Store.disk g.met.L.PartitionLog.lawful c.args.self.now c.args.tenant c.index_mut-one.result.now c.pass.new.self
    c.requires.tenant c.index_mut-one.ensures.value c.requires.invariant c.count.new.parts
    (min (c.refusals-before.result + c.in-Some.refused) END) c.count.ensures (to_z w64 (of_z w64 c.min-self.result)) (omega (arith, ints, c.min-self.ensures.self_bound))
    (λ files agrees clock le. c.next_retention_time.ensures.idle files agrees clock (omega (arith, ints, le, c.min-self.ensures.other_bound)))

pub returns-clause-turn : goal.returns-clause-turn
returns-clause-turn g c =
    turn_counted g.L.PartitionLog.log g.S.Store.disk g.met.L.PartitionLog.lawful c.args.self.now c.args.tenant c.index_mut-one.result.now c.pass.new.self
    c.requires.tenant c.index_mut-one.ensures.value c.requires.invariant c.count.new.parts
    (min (c.refusals-before.result + c.in-Some.refused) END) c.count.ensures

pub returns-clause-accounted : goal.returns-clause-accounted
returns-clause-accounted g c =
    counted_counted g.L.PartitionLog.log g.S.Store.disk g.met.L.PartitionLog.lawful c.args.self.now c.args.tenant c.index_mut-one.result.now c.pass.new.self
    c.requires.tenant c.index_mut-one.ensures.value c.requires.invariant c.count.new.parts
    (min (c.refusals-before.result + c.in-Some.refused) END) c.count.ensures

pub returns-clause-meets : goal.returns-clause-meets
returns-clause-meets g c =
    met_counted g.L.PartitionLog.log g.S.Store.disk g.met.L.PartitionLog.lawful c.args.self.now c.args.tenant c.index_mut-one.result.now c.pass.new.self
    c.requires.tenant c.index_mut-one.ensures.value c.requires.invariant c.count.new.parts
    (min (c.refusals-before.result + c.in-Some.refused) END) c.count.ensures
    c.args.clock c.in-Some.refused (ap (λ k. min (k + c.in-Some.refused) END) c.refusals-before.ensures) c.in-Some.ensures.all
