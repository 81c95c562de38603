use Rattle.std.proofs.Common.{◌≡◌, ap, sym, ◌∙◌, subst}
use Rattle.kb_tenant_api.specs.Hosted.{kept_of, left}
use Rattle.kb_tenant_api.specs.Turns.{with_kept}
use Rattle.kb_tenants.specs.Tenants.{shelf_is_honest}
use Rattle.kb_isolation_spec.specs.Calls.{left_by}
use Rattle.kb_connection.specs.View.{stage_of}
use Rattle.kb_broker.specs.Hosts.{tenants_in}
use Rattle.kb_broker.proofs.Left.{left-some}
use Rattle.kb_broker.proofs.Parked.{IsCarried, carried-left, queue-tenants}
use Rattle.kb_broker.proofs.engine.Engine.leave.Goals as goal

pub invariant_of-self : goal.invariant_of-self
invariant_of-self g c =
    let disk = g.S.Store.disk in
    let old = c.self.inside.tenants in
    let new = c.left.new.self in
    let ts = tenants_in g.L.PartitionLog.log disk old in
    let us = tenants_in g.L.PartitionLog.log disk new in
    let ls = c.self.inside.connections.items in
    let q = c.self.inside.parking in
    let clock = c.self.inside.clock in
    let l = c.index-connection.result.now in
    let t = c.in-Bound.tenant in
    let is : us ≡ left_by clock l.number l.session.stage ts = c.left.ensures.state
    ∙ (ap (λ n. with_kept t (left clock n (kept_of ts t)) ts) c.number.ensures
    ∙ left-some clock l.number t l.session.stage ts (sym c.if-not-has_member.false ∙ c.has_member.ensures) (sym (ap stage_of c.in-Bound.is) ∙ c.phase.ensures)) in
    (c.left.ensures.invariant, queue-tenants (shelf_is_honest disk old) (shelf_is_honest disk new) q ts us ls c.self.invariant.1 (λ honest. subst (λ x. (disk x.store).honest) c.left.ensures.shelf honest) (λ honest. subst (λ x. IsCarried ts x ls q) (sym is) (carried-left clock l.number l.session.stage ts ls q)), c.self.invariant.2, c.self.invariant.3)
