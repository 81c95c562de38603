use Rattle.std.proofs.Common.{◌∙◌, ap, subst, sym}
use Rattle.kb_isolation_spec.specs.Stranded.{NoneStranded}
use Rattle.kb_broker.specs.Hosts.{tenants_in}
use Rattle.kb_broker.proofs.OpeningParts.{over-made, over-ready}
use Rattle.kb_broker.proofs.Stranded.{stranded-over}
use Rattle.kb_broker.proofs.broker.Broker.over.Goals as goal

pub new-requires : goal.new-requires
new-requires g c =
    let ts = tenants_in g.L.PartitionLog.log g.S.Store.disk c.args.tenants in
    over-ready g.S.Store.disk c.args.listing c.args.settings.now ts c.new-engine.result c.requires.names
    (over-made c.args.listing c.args.settings.now ts _ _ c.in-Ok.ensures c.new-engine.ensures.state)

pub returns-clause-state : goal.returns-clause-state
returns-clause-state g c =
    let ts = tenants_in g.L.PartitionLog.log g.S.Store.disk c.args.tenants in
    ap (λ b. b.state) c.new.ensures ∙ over-made c.args.listing c.args.settings.now ts _ _ c.in-Ok.ensures c.new-engine.ensures.state

pub returns-clause-held : goal.returns-clause-held
returns-clause-held g c = λ none. subst NoneStranded (sym (returns-clause-state g c)) (stranded-over c.args.listing c.args.settings.now _ none)
