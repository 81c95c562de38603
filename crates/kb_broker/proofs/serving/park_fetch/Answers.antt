use Rattle.std.proofs.Common.{◌≡◌, subst, sym, Some, OnOk}
use Rattle.std.specs.FinMap as fin
use Rattle.kb_tenant_api.specs.declared.answer.Answer.TheVariants as any
use Rattle.kb_broker.specs.Parked.{keys_for, parked_for}
use Rattle.kb_broker.proofs.Served.{parked-own, parked-others}
use Rattle.kb_broker.proofs.serving.park_fetch.Goals as goal

pub returns-in-Wait-clause-parked : goal.returns-in-Wait-clause-parked
returns-in-Wait-clause-parked c =
    let a = c.args in
    let w = c.in-Wait in
    let q = c.park.new.self in
    let own = parked-own c.park.result a.parking.now q a.number w.deadline (keys_for a.tenant c.deref.result.now) c.park.ensures.parked in
    subst (λ r. OnOk c.park.result (fin.get q a.number ≡ parked_for a.tenant (any.Plain r))) (sym w.is)
    (subst (λ ps. OnOk c.park.result (fin.get q a.number ≡ Some (record { deadline = w.deadline; keys = keys_for a.tenant ps }))) c.deref.ensures.value own)

pub returns-in-Wait-clause-others : goal.returns-in-Wait-clause-others
returns-in-Wait-clause-others c = parked-others c.park.result c.args.parking.now c.park.new.self c.args.number _ c.park.ensures.parked c.park.ensures.refused
