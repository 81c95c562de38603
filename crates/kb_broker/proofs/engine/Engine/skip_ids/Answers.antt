use Rattle.std.proofs.Common.{◌≡◌, ◌<◌, ◌∙◌, ap, length, refl, subst, sym}
use Rattle.std.specs.Prelude.{OnErr}
use Rattle.kb_tenant_api.specs.Hosted as tenants
use Rattle.kb_tenant_api.specs.Turns.{IsTurn}
use Rattle.kb_tenant_state.specs.Counts.{IsCalm}
use Rattle.kb_tenants.specs.Counts.{all_counts}
use Rattle.kb_tenants.specs.Tenants.{commands_of, numbers_in, shelf_is_honest}
use Rattle.kb_broker.specs.Hosts.{IsLaterWith, OnStore, tenants_in}
use Rattle.kb_broker.specs.Ids.{IsSkippedAt}
use Rattle.kb_broker.proofs.Counted.{later-called}
use Rattle.kb_broker.proofs.Members.{queue-numbered}
use Rattle.kb_broker.proofs.engine.Engine.skip_ids.Goals as goal

pub skip_ids-requires-clause-tenant : goal.skip_ids-requires-clause-tenant
skip_ids-requires-clause-tenant g c = subst (λ (x : OnStore g.row.S.Denot). c.args.tenant < length x.state.tenants) (sym c.self.view_is) c.requires.there

pub invariant_of-self : goal.invariant_of-self
invariant_of-self g c =
    let disk = g.S.Store.disk in
    let log = g.L.PartitionLog.log in
    let old = c.self.inside.tenants in
    let new = c.skip_ids.new.self in
    let none = ap (λ (x : OnStore g.row.S.Denot). x.state.lines) c.self.view_is ∙ c.requires.alone in (
      c.skip_ids.ensures.invariant,
      queue-numbered (shelf_is_honest disk old) (shelf_is_honest disk new) c.self.inside.parking (tenants_in log disk old) (tenants_in log disk new)
          c.self.inside.connections.items c.self.invariant.1 none c.skip_ids.ensures.honest,
      c.self.invariant.2,
      c.self.invariant.3,
    )

pub returns-clause-later : goal.returns-clause-later
returns-clause-later g c =
    let disk = g.S.Store.disk in
    let log = g.L.PartitionLog.log in
    let old = c.self.inside.tenants in
    let new = c.skip_ids.new.self in
    let e = c.skip_ids.ensures in
    let there = subst (λ (x : OnStore g.row.S.Denot). c.args.tenant < length x.state.tenants) (sym c.self.view_is) c.requires.there in
    subst (λ (x : OnStore g.row.S.Denot). IsLaterWith (disk x.store) (disk new.shelf.store) x.strays (numbers_in new.strays) x.state.tenants (tenants_in log disk new) x.counts (all_counts new)) c.self.view_is
    (later-called log disk old new c.args.tenant (shelf_is_honest disk new) there e.honest e.failures e.turn e.accounted e.strays e.left_alone)

pub returns-clause-turn : goal.returns-clause-turn
returns-clause-turn g c =
    let disk = g.S.Store.disk in
    let new = c.skip_ids.new.self in
    subst (λ (x : OnStore g.row.S.Denot). IsTurn c.args.tenant (shelf_is_honest disk new) x.state.tenants (tenants_in g.L.PartitionLog.log disk new)) c.self.view_is c.skip_ids.ensures.turn

pub returns-clause-groups : goal.returns-clause-groups
returns-clause-groups g c =
    let new = tenants_in g.L.PartitionLog.log g.S.Store.disk c.skip_ids.new.self in
    subst (λ (x : OnStore g.row.S.Denot). (tenants.kept_of new c.args.tenant).groups ≡ (tenants.kept_of x.state.tenants c.args.tenant).groups) c.self.view_is c.skip_ids.ensures.groups

pub returns-clause-skipped : goal.returns-clause-skipped
returns-clause-skipped g c = λ honest.
    let disk = g.S.Store.disk in
    let log = g.L.PartitionLog.log in
    let new = c.skip_ids.new.self in
    subst (λ (x : OnStore g.row.S.Denot). IsSkippedAt c.args.tenant c.skip_ids.result (disk x.store).failures (disk new.shelf.store).failures x.state.tenants (tenants_in log disk new)) c.self.view_is (record {
      next = new.shelf.next;
      commands = commands_of log new c.args.tenant;
      kept = c.skip_ids.ensures.skipped honest;
    })

pub returns-clause-counted : goal.returns-clause-counted
returns-clause-counted g c =
    let new = tenants_in g.L.PartitionLog.log g.S.Store.disk c.skip_ids.new.self in
    subst (λ (x : OnStore g.row.S.Denot). OnErr c.skip_ids.result (IsCalm (tenants.refusals_of x.state.tenants c.args.tenant) (tenants.refusals_of new c.args.tenant) → ⊥)) c.self.view_is c.skip_ids.ensures.counted
