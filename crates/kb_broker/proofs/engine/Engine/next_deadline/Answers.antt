use Rattle.kb_tenants.specs.Tenants.{shelf_is_honest}
use Rattle.kb_broker.proofs.Quiet.{late-on, quiet-on}
use Rattle.kb_broker.proofs.engine.Engine.next_deadline.Goals as goal

pub returns-clause-quiet : goal.returns-clause-quiet
returns-clause-quiet g c =
    let disk = g.S.Store.disk in
    let tenants = c.self.inside.tenants in
    quiet-on disk (shelf_is_honest disk tenants) _ c.args.self.now c.self.inside.parking tenants.next_retention_time c.next_deadline.result c.self.view_is c.requires c.self.invariant.1 c.next_deadline.ensures c.self.invariant.0.until

pub returns-clause-deadlines : goal.returns-clause-deadlines
returns-clause-deadlines g c =
    let tenants = c.self.inside.tenants in
    late-on _ c.args.self.now c.self.inside.parking tenants.next_retention_time c.next_deadline.result (shelf_is_honest g.S.Store.disk tenants) c.self.view_is c.self.invariant.1 c.next_deadline.ensures
