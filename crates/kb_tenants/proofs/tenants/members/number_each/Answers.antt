use Rattle.std.proofs.Common.{◌≡◌, ◌∙◌, ◌++◌, subst, sym, ap, arith, add-one, take, drop, map, slice_set, slice_index_or}
use Rattle.kb_coordinator.specs.Groups.{Groups}
use Rattle.kb_tenants.specs.Members.{HasNoGroup, renumbered}
use Rattle.kb_tenants.specs.declared.tenants.Tenant.{Tenant}
use Rattle.kb_tenants.proofs.Members.{next_mapped, next_stays}
use Rattle.kb_tenants.proofs.tenants.members.number_each.Goals as goal

pub number_members_from-requires-clause-early : goal.number_members_from-requires-clause-early
number_members_from-requires-clause-early g c =
    c.loop-i.invariant.early c.loop-i.i c.index-tenants-i.result (omega arith) (omega (arith, c.loop-i-test.true, c.loop-i.auto.tenants))

pub loop-i-preserved : goal.loop-i-preserved
loop-i-preserved g c =
    let xs = c.loop-i.tenants in
    let i = c.loop-i.i in
    let x = slice_index_or xs i c.index-tenants-i.result in
    let f : Tenant g.row.L.Denot → Tenant g.row.L.Denot = renumbered c.args.first in
    let v : Tenant g.row.L.Denot = record x { groups = c.number_members_from.new.self } in
    let one : v ≡ f x = ap (λ (gs : Groups). record x { groups = gs }) c.number_members_from.ensures in
    record {
      done = subst (λ n. take n (slice_set xs i v) ++ map f (drop n (slice_set xs i v)) ≡ map f c.args.tenants.now) (sym (add-one i))
          (next_mapped f xs i c.index-tenants-i.result v (omega (arith, c.loop-i-test.true, c.loop-i.auto.tenants)) one ∙ c.loop-i.invariant.done);
      early = next_stays HasNoGroup xs i v c.loop-i.invariant.early;
    }
