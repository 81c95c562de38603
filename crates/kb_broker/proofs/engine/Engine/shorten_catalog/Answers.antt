use Rattle.std.proofs.Common.{◌≡◌, ◌≤◌, ◌<◌, ◌-◌, ◌∙◌, ap, get_or, length, refl, subst, sym}
use Rattle.kb_tenant_api.specs.Hosted as tenants
use Rattle.kb_tenant_api.specs.Turns.{IsTurn}
use Rattle.kb_tenants.specs.Counts.{all_counts}
use Rattle.kb_tenants.specs.Renewal.{IsShortened, snapshot_of}
use Rattle.kb_tenants.specs.Tenants.{all_commands, numbers_in, shelf_is_honest}
use Rattle.kb_tenants.specs.declared.tenants.Tenants.{Tenants}
use Rattle.kb_broker.specs.Hosts.{IsLaterWith, OnStore, tenants_in}
use Rattle.kb_broker.proofs.Counted.{later-called}
use Rattle.kb_broker.proofs.Members.{queue-numbered}
use Rattle.kb_broker.proofs.engine.Engine.shorten_catalog.Goals as goal

pub shorten-requires-clause-tenant : goal.shorten-requires-clause-tenant
shorten-requires-clause-tenant g c = subst (λ (x : OnStore g.row.S.Denot). c.args.tenant < length x.state.tenants) (sym c.self.view_is) c.requires.there

pub invariant_of-self : goal.invariant_of-self
invariant_of-self g c =
    let disk = g.S.Store.disk in
    let log = g.L.PartitionLog.log in
    let old = c.self.inside.tenants in
    let new = c.shorten.new.self in
    let none = ap (λ (x : OnStore g.row.S.Denot). x.state.lines) c.self.view_is ∙ c.requires.alone in (
      c.shorten.ensures.invariant,
      queue-numbered (shelf_is_honest disk old) (shelf_is_honest disk new) c.self.inside.parking (tenants_in log disk old) (tenants_in log disk new)
          c.self.inside.connections.items c.self.invariant.1 none c.shorten.ensures.unseen.honest,
      c.self.invariant.2,
      c.self.invariant.3,
    )

pub returns-clause-later : goal.returns-clause-later
returns-clause-later g c =
    let disk = g.S.Store.disk in
    let log = g.L.PartitionLog.log in
    let old = c.self.inside.tenants in
    let new = c.shorten.new.self in
    let e = c.shorten.ensures.unseen in
    let there = subst (λ (x : OnStore g.row.S.Denot). c.args.tenant < length x.state.tenants) (sym c.self.view_is) c.requires.there in
    subst (λ (x : OnStore g.row.S.Denot). IsLaterWith (disk x.store) (disk new.shelf.store) x.strays (numbers_in new.strays) x.state.tenants (tenants_in log disk new) x.counts (all_counts new)) c.self.view_is
    (later-called log disk old new c.args.tenant (shelf_is_honest disk new) there e.honest e.failures e.turn e.accounted e.strays e.left_alone)

pub returns-clause-turn : goal.returns-clause-turn
returns-clause-turn g c =
    let disk = g.S.Store.disk in
    let new = c.shorten.new.self in
    subst (λ (x : OnStore g.row.S.Denot). IsTurn c.args.tenant (shelf_is_honest disk new) x.state.tenants (tenants_in g.L.PartitionLog.log disk new)) c.self.view_is c.shorten.ensures.unseen.turn

pub returns-clause-stays : goal.returns-clause-stays
returns-clause-stays g c = λ honest t.
    let new = tenants_in g.L.PartitionLog.log g.S.Store.disk c.shorten.new.self in
    subst (λ (x : OnStore g.row.S.Denot). tenants.kept_of new t ≡ tenants.kept_of x.state.tenants t) c.self.view_is (c.shorten.ensures.unseen.stays honest t)

pub returns-clause-shortened : goal.returns-clause-shortened
returns-clause-shortened g c =
    let disk = g.S.Store.disk in
    let log = g.L.PartitionLog.log in
    let new = c.shorten.new.self in
    subst (λ (x : OnStore g.row.S.Denot). IsShortened c.args.tenant ((disk new.shelf.store).failures - (disk x.store).failures) x.state.tenants (tenants_in log disk new) x.commands (all_commands log new)) c.self.view_is
    c.shorten.ensures.shortened

pub returns-clause-short : goal.returns-clause-short
returns-clause-short g c = λ short.
    let disk = g.S.Store.disk in
    let log = g.L.PartitionLog.log in
    let e = c.self.inside in
    let seen : Tenants g.row.L.Denot g.row.S.Denot → OnStore g.row.S.Denot = λ ts. record {
      state = record {
        setup = e.setup;
        tenants = tenants_in log disk ts;
        unbound_refusals = e.unbound_refusals;
        clock = e.clock;
        last = e.last;
        lines = e.connections.items;
      };
      store = ts.shelf.store;
      strays = numbers_in ts.strays;
      counts = all_counts ts;
      commands = all_commands log ts;
    } in
    ap seen (c.shorten.ensures.short (subst (λ (x : OnStore g.row.S.Denot). get_or x.commands c.args.tenant 0 ≤ snapshot_of (tenants.kept_of x.state.tenants c.args.tenant)) (sym c.self.view_is) short))
    ∙ c.self.view_is
