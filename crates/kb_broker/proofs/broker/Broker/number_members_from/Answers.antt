use Rattle.std.proofs.Common.{◌∙◌, List, ap, subst, sym}
use Rattle.kb_isolation_spec.specs.Stranded.{NoneStranded}
use Rattle.kb_tenant_api.specs.Hosted.{TenantState}
use Rattle.kb_tenants.specs.Members.{HaveNoGroup}
use Rattle.kb_broker.specs.Hosts.{OnStore}
use Rattle.kb_broker.specs.Members.{broker_numbered_from}
use Rattle.kb_broker.proofs.Members.{numbered-held, numbered-ready}
use Rattle.kb_broker.proofs.broker.Broker.number_members_from.Goals as goal

pub number_members_from-requires-clause-alone : goal.number_members_from-requires-clause-alone
number_members_from-requires-clause-alone g c = ap (λ (x : OnStore g.row.S.Denot). x.state.lines) c.self.view_is ∙ c.requires.alone

pub number_members_from-requires-clause-early : goal.number_members_from-requires-clause-early
number_members_from-requires-clause-early g c =
    subst (λ (ts : List TenantState). HaveNoGroup ts) (sym (ap (λ (x : OnStore g.row.S.Denot). x.state.tenants) c.self.view_is)) c.requires.early

pub invariant_of-self : goal.invariant_of-self
invariant_of-self g c =
    numbered-ready g.S.Store.disk c.args.first c.self.inside.engine c.number_members_from.new.self
    (ap (λ (x : OnStore g.row.S.Denot). x.state.lines) c.self.view_is ∙ c.requires.alone) c.self.invariant c.number_members_from.ensures

pub returns-clause-ready : goal.returns-clause-ready
returns-clause-ready g c =
    numbered-ready g.S.Store.disk c.args.first c.self.inside.engine c.number_members_from.new.self
    (ap (λ (x : OnStore g.row.S.Denot). x.state.lines) c.self.view_is ∙ c.requires.alone) c.self.invariant c.number_members_from.ensures

pub returns-clause-state : goal.returns-clause-state
returns-clause-state g c =
    c.number_members_from.ensures ∙ ap (λ (x : OnStore g.row.S.Denot). record x { state = broker_numbered_from c.args.first x.state }) c.self.view_is

pub returns-clause-held : goal.returns-clause-held
returns-clause-held g c = λ h.
    subst (λ (x : OnStore g.row.S.Denot). NoneStranded x.state) (sym (returns-clause-state g c)) (numbered-held c.args.first c.args.self.now.state h)
