use Rattle.std.proofs.Common.{◌≡◌, ◌∙◌, ◌<◌, List, length, ap, arith, sym, subst}
use Rattle.kb_tenant_api.specs.Hosted.{TenantState}
use Rattle.kb_isolation_spec.specs.Broker.{BrokerState, InRange}
use Rattle.kb_connection.specs.View.{stage_of}
use Rattle.kb_tenants.specs.Tenants.{shelf_is_honest}
use Rattle.kb_broker.specs.Hosts.{tenants_in}
use Rattle.kb_broker.specs.Places.{IsCountedAt}
use Rattle.kb_broker.proofs.Handled.{counted-inside, member_at}
use Rattle.kb_broker.proofs.Honest.{counts-is, state-is}
use Rattle.kb_broker.proofs.Left.{left-length}
use Rattle.kb_broker.proofs.Parked.{IsCarried, carried-left, carried-same, carried-then, queue-tenants}
use Rattle.kb_tenants.proofs.Passed.{length_named}
use Rattle.kb_tenants.proofs.Shares.{shares_kept}
use Rattle.kb_broker.proofs.engine.Engine.refuse.Goals as goal

pub refuse-requires-clause-tenant : goal.refuse-requires-clause-tenant
refuse-requires-clause-tenant g c =
    let log = g.L.PartitionLog.log in
    let ts = tenants_in log g.S.Store.disk c.self.inside.tenants in
    let us = tenants_in log g.S.Store.disk c.left.new.self in
    let t = c.in-Bound.tenant in
    let many : length us ≡ length ts = ap (λ (xs : List TenantState). length xs) c.left.ensures.state ∙ left-length c.self.inside.clock c.args.number (member_at t) ts in
    let same : length ts ≡ length c.args.self.now.state.tenants = ap (λ (x : BrokerState). length x.tenants) (state-is _ _ c.self.view_is) in
    let lt : t < length c.args.self.now.state.tenants = subst (InRange (length c.args.self.now.state.tenants)) (ap stage_of c.in-Bound.is) c.requires in
    omega (arith, many, same, lt)

pub invariant_of-self-in-Bound : goal.invariant_of-self-in-Bound
invariant_of-self-in-Bound g c =
    let disk = g.S.Store.disk in
    let log = g.L.PartitionLog.log in
    let old = c.self.inside.tenants in
    let mid = c.left.new.self in
    let new = c.refuse.new.self in
    let ts = tenants_in log disk old in
    let us = tenants_in log disk mid in
    let vs = tenants_in log disk new in
    let ls = c.self.inside.connections.items in
    let q = c.self.inside.parking in
    let first : IsCarried ts us ls q = subst (λ x. IsCarried ts x ls q) (sym c.left.ensures.state) (carried-left c.self.inside.clock c.args.number (member_at c.in-Bound.tenant) ts ls q) in (
      c.refuse.ensures.invariant,
      queue-tenants (shelf_is_honest disk old) (shelf_is_honest disk new) q ts vs ls c.self.invariant.1 (λ honest. subst (λ x. (disk x.store).honest) (c.refuse.ensures.shelf ∙ c.left.ensures.shelf) honest)
          (λ honest. carried-then ts us vs ls q first (carried-same us vs ls q c.refuse.ensures.turn.grows c.refuse.ensures.stays)),
      c.self.invariant.2,
      c.self.invariant.3,
    )

pub returns-in-Bound-clause-counted : goal.returns-in-Bound-clause-counted
returns-in-Bound-clause-counted g c =
    let disk = g.S.Store.disk in
    let log = g.L.PartitionLog.log in
    let i = c.self.inside in
    let vs = tenants_in log disk c.refuse.new.self in
    let end : BrokerState = record { setup = i.setup; tenants = vs; unbound_refusals = i.unbound_refusals; clock = i.clock; last = i.last; lines = i.connections.items } in
    subst (λ st. IsCountedAt c.args.number st c.args.self.now.state end) (sym (ap stage_of c.in-Bound.is))
    (counted-inside _ c.args.self.now.state c.in-Bound.tenant c.args.number (tenants_in log disk c.left.new.self) vs (state-is _ _ c.self.view_is) c.left.ensures.state c.refuse.ensures.turn c.refuse.ensures.stays c.refuse.ensures.once)

pub returns-in-Bound-clause-counts : goal.returns-in-Bound-clause-counts
returns-in-Bound-clause-counts g c =
    let disk = g.S.Store.disk in
    let log = g.L.PartitionLog.log in
    let mid = c.left.new.self in
    let new = c.refuse.new.self in
    shares_kept log disk mid new (length_named (tenants_in log disk mid) (tenants_in log disk new) c.refuse.ensures.turn.names) c.refuse.ensures.causes
    ∙ (c.left.ensures.counts ∙ counts-is _ _ c.self.view_is)
