use Rattle.std.proofs.Common.{◌∙◌, List, ap, subst, sym}
use Rattle.kb_tenants.specs.Members.{HaveNoGroup}
use Rattle.kb_tenants.specs.Tenants.{numbers_in, shelf_is_honest}
use Rattle.kb_tenant_api.specs.Hosted.{TenantState}
use Rattle.kb_broker.specs.Hosts.{OnStore, tenants_in}
use Rattle.kb_broker.proofs.Members.{numbered-made, queue-numbered}
use Rattle.kb_broker.proofs.engine.Engine.number_members_from.Goals as goal

pub number_members_from-requires-clause-early : goal.number_members_from-requires-clause-early
number_members_from-requires-clause-early g c =
    subst (λ (ts : List TenantState). HaveNoGroup ts) (sym (ap (λ (x : OnStore g.row.S.Denot). x.state.tenants) c.self.view_is)) c.requires.early

pub invariant_of-self : goal.invariant_of-self
invariant_of-self g c =
    let disk = g.S.Store.disk in
    let old = c.self.inside.tenants in
    let new = c.number_members_from.new.self in
    let none = ap (λ (x : OnStore g.row.S.Denot). x.state.lines) c.self.view_is ∙ c.requires.alone in (
      c.number_members_from.ensures.invariant,
      queue-numbered (shelf_is_honest disk old) (shelf_is_honest disk new) c.self.inside.parking (tenants_in g.L.PartitionLog.log disk old) (tenants_in g.L.PartitionLog.log disk new)
          c.self.inside.connections.items c.self.invariant.1 none (λ honest. subst (λ x. (disk x.store).honest) c.number_members_from.ensures.shelf honest),
      c.self.invariant.2,
      c.self.invariant.3,
    )

pub returns : goal.returns
returns g c =
    numbered-made c.args.first _ c.args.self.now _ _ _ _ _ c.self.view_is c.number_members_from.ensures.hosted
    (ap (λ x. x.store) c.number_members_from.ensures.shelf) (ap numbers_in c.number_members_from.ensures.strays) c.number_members_from.ensures.counts
    c.number_members_from.ensures.commands
