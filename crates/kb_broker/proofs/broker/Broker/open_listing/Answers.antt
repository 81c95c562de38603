use Rattle.std.proofs.Common.{◌∙◌, List, ap, map, subst, sym, Bor, ℕ}
use Rattle.kb_tenant_api.specs.Hosted.{new_tenant}
use Rattle.kb_tenants.specs.Members.{HaveNoGroup}
use Rattle.kb_isolation_spec.specs.Broker.{BrokerState}
use Rattle.kb_broker.proofs.Members.{none-first}
use Rattle.kb_broker.proofs.OpeningParts.{opening-made, opening-ready}
use Rattle.kb_broker.proofs.broker.Broker.open_listing.Goals as goal

pub new-requires-2 : goal.new-requires-2
new-requires-2 g c = opening-ready g.S.Store.disk c.args.listing c.args.settings.now c.new-engine.result
    (opening-made c.args.listing (λ name. name.now) c.args.settings.now c.deref.result.now c.in-Ok.names.items _ _ _ c.deref.ensures.value c.in-Ok.ensures
    (c.in_ok-tenants.ensures.new ∙ ap (λ (names : List (Bor (List ℕ))). map (λ name. new_tenant name.now) names) c.deref-3.ensures.value) c.in-Ok-new_setup.ensures c.new-engine.ensures.state)

pub returns-clause-state : goal.returns-clause-state
returns-clause-state g c = ap (λ b. b.state) c.new-2.ensures
    ∙ opening-made c.args.listing (λ name. name.now) c.args.settings.now c.deref.result.now c.in-Ok.names.items _ _ _ c.deref.ensures.value c.in-Ok.ensures
    (c.in_ok-tenants.ensures.new ∙ ap (λ (names : List (Bor (List ℕ))). map (λ name. new_tenant name.now) names) c.deref-3.ensures.value) c.in-Ok-new_setup.ensures c.new-engine.ensures.state

pub returns-clause-no_groups : goal.returns-clause-no_groups
returns-clause-no_groups g c =
    subst (λ (b : BrokerState). HaveNoGroup b.tenants) (sym (returns-clause-state g c)) (none-first c.args.listing c.args.settings.now)
