use Rattle.std.proofs.Common.{sym, ap, subst, List, ◌∙◌}
use Rattle.kb_isolation_spec.specs.Machine.{Line}
use Rattle.kb_isolation_spec.specs.RequestLimits.{HaveLimit}
use Rattle.kb_tenants.specs.Tenants.{shelf_is_honest}
use Rattle.kb_broker.specs.Hosts.{tenants_in}
use Rattle.kb_broker.specs.Parked.{IsQueueOf, deadline_at}
use Rattle.kb_broker.proofs.Parked.{queue-opened}
use Rattle.kb_broker.proofs.RequestLimits.{limit-added}
use Rattle.kb_broker.proofs.engine.Engine.connect.Goals as goal

pub invariant_of-self : goal.invariant_of-self
invariant_of-self g c =
    let H = shelf_is_honest g.S.Store.disk c.self.inside.tenants in
    let ts = tenants_in g.L.PartitionLog.log g.S.Store.disk c.self.inside.tenants in
    let q = c.self.inside.parking in (
      c.self.invariant.0,
      subst (λ (ls : List Line). IsQueueOf H q ts ls) (sym c.in-Ok.ensures.ok) (queue-opened H q ts c.self.inside.connections.items c.new-connection.result c.self.invariant.1 (ap (λ (l : Line). deadline_at l.session.stage) c.new-connection.ensures)),
      c.add.ensures.heard,
      subst (HaveLimit c.self.inside.setup.request_bytes) (sym c.in-Ok.ensures.ok) (limit-added c.self.inside.setup.request_bytes c.self.inside.connections.items c.new-connection.result (ap (λ (l : Line). l.session.limit) c.new-connection.ensures ∙ c.request_bytes.ensures) c.self.invariant.3),
    )
