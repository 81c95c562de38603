use Rattle.std.proofs.Common.{◌∙◌, List, ap, subst, sym}
use Rattle.kb_isolation_spec.specs.Stranded.{NoneStranded}
use Rattle.kb_tenant_api.specs.Hosted.{TenantState}
use Rattle.kb_tenants.specs.Members.{HaveNoGroup}
use Rattle.kb_broker.specs.Hosts.{OnStore}
use Rattle.kb_broker.specs.Limited.{limited_by}
use Rattle.kb_broker.proofs.Limited.{limited-held, limited-ready, none-limited}
use Rattle.kb_broker.proofs.broker.Broker.limit_groups.Goals as goal

pub limit_groups-requires-clause-alone : goal.limit_groups-requires-clause-alone
limit_groups-requires-clause-alone g c = ap (λ (x : OnStore g.row.S.Denot). x.state.lines) c.self.view_is ∙ c.requires.alone

pub limit_groups-requires-clause-early : goal.limit_groups-requires-clause-early
limit_groups-requires-clause-early g c =
    subst (λ (ts : List TenantState). HaveNoGroup ts) (sym (ap (λ (x : OnStore g.row.S.Denot). x.state.tenants) c.self.view_is)) c.requires.early

pub invariant_of-self : goal.invariant_of-self
invariant_of-self g c =
    limited-ready g.S.Store.disk c.args.limits.now c.self.inside.engine c.limit_groups.new.self
    (ap (λ (x : OnStore g.row.S.Denot). x.state.lines) c.self.view_is ∙ c.requires.alone) c.self.invariant c.limit_groups.ensures

pub returns-clause-ready : goal.returns-clause-ready
returns-clause-ready g c =
    limited-ready g.S.Store.disk c.args.limits.now c.self.inside.engine c.limit_groups.new.self
    (ap (λ (x : OnStore g.row.S.Denot). x.state.lines) c.self.view_is ∙ c.requires.alone) c.self.invariant c.limit_groups.ensures

pub returns-clause-state : goal.returns-clause-state
returns-clause-state g c =
    c.limit_groups.ensures ∙ ap (λ (x : OnStore g.row.S.Denot). record x { state = limited_by c.args.limits.now x.state }) c.self.view_is

pub returns-clause-early : goal.returns-clause-early
returns-clause-early g c =
    subst (λ (x : OnStore g.row.S.Denot). HaveNoGroup x.state.tenants) (sym (returns-clause-state g c))
    (none-limited c.args.limits.now c.args.self.now.state.tenants c.requires.early)

pub returns-clause-held : goal.returns-clause-held
returns-clause-held g c = λ h.
    subst (λ (x : OnStore g.row.S.Denot). NoneStranded x.state) (sym (returns-clause-state g c)) (limited-held c.args.limits.now c.args.self.now.state h)
