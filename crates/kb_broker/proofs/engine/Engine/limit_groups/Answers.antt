use Rattle.std.proofs.Common.{◌≡◌, add-one, arith, subst, sym, take}
use Rattle.kb_tenants.specs.Members.{HaveNoGroup}
use Rattle.kb_broker.specs.Hosts.{OnStore}
use Rattle.kb_broker.specs.Limited.{limited_by}
use Rattle.kb_broker.proofs.Limited.{limited-first, limited-next, none-limited}
use Rattle.kb_broker.proofs.engine.Engine.limit_groups.Goals as goal

pub loop-tenant-init : goal.loop-tenant-init
loop-tenant-init g c = limited-first c.args.limits.now c.args.self.now

pub limit_at-requires-clause-early : goal.limit_at-requires-clause-early
limit_at-requires-clause-early g c =
    subst (λ (x : OnStore g.row.S.Denot). HaveNoGroup x.state.tenants) (sym c.loop-tenant.invariant)
    (none-limited (take c.loop-tenant.tenant c.args.limits.now) c.args.self.now.state.tenants c.requires.early)

pub loop-tenant-preserved : goal.loop-tenant-preserved
loop-tenant-preserved g c =
    let old = c.args.self.now in
    subst (λ n. c.limit_at.new.self ≡ record old { state = limited_by (take n c.args.limits.now) old.state }) (sym (add-one c.loop-tenant.tenant))
    (limited-next c.args.limits.now old c.loop-tenant.self c.limit_at.new.self c.loop-tenant.tenant _
    (omega (arith, c.loop-tenant-test.true, c.loop-tenant.auto.tenant-end)) c.loop-tenant.invariant c.limit_at.ensures)
