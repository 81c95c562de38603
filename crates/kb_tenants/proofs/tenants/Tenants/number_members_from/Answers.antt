use Rattle.std.proofs.Common.{◌∙◌, List, map, ap, sym, subst}
use Rattle.std.specs.List.{All}
use Rattle.std.specs.Vec.{with_items}
use Rattle.kb_tenants.specs.Members.{HasNoGroup}
use Rattle.kb_tenants.specs.declared.tenants.Tenant.{Tenant}
use Rattle.kb_tenants.proofs.Hosted.{recorded}
use Rattle.kb_tenants.proofs.Causes.{commands_numbered, stores_numbered}
use Rattle.kb_tenants.proofs.Members.{hosted_numbered, items_numbered, kept_numbered, none_in, parts_numbered}
use Rattle.kb_tenants.proofs.tenants.Tenants.number_members_from.Goals as goal

pub number_each-requires-clause-early : goal.number_each-requires-clause-early
number_each-requires-clause-early g c =
    let old = c.args.self.now in
    subst (λ (xs : List (Tenant g.row.L.Denot)). All HasNoGroup xs) (sym c.deref_mut.ensures.value)
    (none_in g.L.PartitionLog.log (g.S.Store.disk old.shelf.store).files old.tenants.items c.requires.early)

pub returns-clause-invariant : goal.returns-clause-invariant
returns-clause-invariant g c =
    let v = c.args.self.now.tenants in
    kept_numbered g.L.PartitionLog.log g.S.Store.disk c.args.first c.args.self.now (with_items v c.number_each.new.tenants)
    (items_numbered c.args.first v c.deref_mut.result.now c.number_each.new.tenants c.deref_mut.ensures.value c.number_each.ensures) c.requires.invariant

pub returns-clause-hosted : goal.returns-clause-hosted
returns-clause-hosted g c =
    let v = c.args.self.now.tenants in
    hosted_numbered g.L.PartitionLog.log g.S.Store.disk c.args.first c.args.self.now (with_items v c.number_each.new.tenants)
    (items_numbered c.args.first v c.deref_mut.result.now c.number_each.new.tenants c.deref_mut.ensures.value c.number_each.ensures)

pub returns-clause-parts : goal.returns-clause-parts
returns-clause-parts g c =
    let v = c.args.self.now.tenants in
    parts_numbered g.L.PartitionLog.log g.S.Store.disk c.args.first c.args.self.now (with_items v c.number_each.new.tenants)
    (items_numbered c.args.first v c.deref_mut.result.now c.number_each.new.tenants c.deref_mut.ensures.value c.number_each.ensures)

pub returns-clause-counts : goal.returns-clause-counts
returns-clause-counts g c =
    let v = c.args.self.now.tenants in
    let is = items_numbered c.args.first v c.deref_mut.result.now c.number_each.new.tenants c.deref_mut.ensures.value c.number_each.ensures in
    ap (map (λ (z : Tenant g.row.L.Denot). z.counts)) is ∙ stores_numbered c.args.first v.items

pub returns-clause-commands : goal.returns-clause-commands
returns-clause-commands g c =
    let v = c.args.self.now.tenants in
    let is = items_numbered c.args.first v c.deref_mut.result.now c.number_each.new.tenants c.deref_mut.ensures.value c.number_each.ensures in
    ap (map (recorded g.L.PartitionLog.log)) is ∙ commands_numbered g.L.PartitionLog.log c.args.first v.items
