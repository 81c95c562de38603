use Rattle.std.proofs.Common.{◌≡◌, [], subst, sym, OnOk}
use Rattle.std.specs.FinMap as fin
use Rattle.kb_isolation_spec.specs.Tenant.{Group}
use Rattle.kb_broker.specs.Parked.{keys_for, parked_for, until}
use Rattle.kb_broker.proofs.Served.{parked-own, parked-others}
use Rattle.kb_broker.proofs.serving.park.Goals as goal

pub returns-in-Rebalance-clause-parked : goal.returns-in-Rebalance-clause-parked
returns-in-Rebalance-clause-parked c =
    let a = c.args in
    let p = c.park in
    let own = parked-own p.result a.parking.now p.new.self a.number (until Group) (keys_for a.tenant []) p.ensures.parked in
    subst (λ r. OnOk p.result (fin.get p.new.self a.number ≡ parked_for a.tenant r)) (sym c.in-Rebalance.is) own

pub returns-in-Rebalance-clause-others : goal.returns-in-Rebalance-clause-others
returns-in-Rebalance-clause-others c = let p = c.park in parked-others p.result c.args.parking.now p.new.self c.args.number _ p.ensures.parked p.ensures.refused
