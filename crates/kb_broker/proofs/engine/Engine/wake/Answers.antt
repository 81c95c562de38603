use Rattle.kb_tenants.specs.Tenants.{shelf_is_honest}
use Rattle.kb_broker.proofs.Fields.{sought-looked}
use Rattle.kb_broker.proofs.Honest.{state-is}
use Rattle.kb_broker.proofs.engine.Engine.wake.Goals as goal

pub returns-in-Some-clause-unready : goal.returns-in-Some-clause-unready
returns-in-Some-clause-unready g c = λ honest unready.
    let H = shelf_is_honest g.S.Store.disk c.self.inside.tenants in
    sought-looked H c.self.inside.parking c.args.answered _ c.args.self.now.state c.wake_each.new.self.state c.in-Some.numbers.items c.deref.result.now (state-is _ _ c.self.view_is) c.self.invariant.1 c.in-Some.ensures.sought c.deref.ensures.value (c.wake_each.ensures.minded honest) unready
