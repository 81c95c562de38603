use Rattle.std.proofs.Common.{◌∙◌, List, ap, subst, sym}
use Rattle.kb_tenants.specs.Members.{HaveNoGroup}
use Rattle.kb_tenants.specs.Tenants.{numbers_in, shelf_is_honest}
use Rattle.kb_tenant_api.specs.Hosted.{TenantState}
use Rattle.kb_broker.specs.Hosts.{OnStore, tenants_in}
use Rattle.kb_broker.proofs.Limited.{limited-made}
use Rattle.kb_broker.proofs.Members.{queue-numbered}
use Rattle.kb_broker.proofs.engine.Engine.limit_at.Goals as goal

pub limit_groups-requires-clause-early : goal.limit_groups-requires-clause-early
limit_groups-requires-clause-early g c =
    subst (λ (ts : List TenantState). HaveNoGroup ts) (sym (ap (λ (x : OnStore g.row.S.Denot). x.state.tenants) c.self.view_is)) c.requires.early

pub invariant_of-self : goal.invariant_of-self
invariant_of-self g c =
    let disk = g.S.Store.disk in
    let old = c.self.inside.tenants in
    let new = c.limit_groups.new.self in
    let none = ap (λ (x : OnStore g.row.S.Denot). x.state.lines) c.self.view_is ∙ c.requires.alone in (
      c.limit_groups.ensures.invariant,
      queue-numbered (shelf_is_honest disk old) (shelf_is_honest disk new) c.self.inside.parking (tenants_in g.L.PartitionLog.log disk old) (tenants_in g.L.PartitionLog.log disk new)
          c.self.inside.connections.items c.self.invariant.1 none (λ honest. subst (λ x. (disk x.store).honest) c.limit_groups.ensures.shelf honest),
      c.self.invariant.2,
      c.self.invariant.3,
    )

pub returns : goal.returns
returns g c =
    limited-made c.args.tenant c.args.limits _ c.args.self.now _ _ _ _ _ c.self.view_is c.limit_groups.ensures.state
    (ap (λ x. x.store) c.limit_groups.ensures.shelf) (ap numbers_in c.limit_groups.ensures.strays) c.limit_groups.ensures.counts
    c.limit_groups.ensures.commands
