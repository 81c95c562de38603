use Rattle.kb_broker.proofs.Happened.{drained-held, drained-ready}
use Rattle.kb_broker.proofs.broker.Broker.take_output.Goals as goal

pub invariant_of-self : goal.invariant_of-self
invariant_of-self g c = drained-ready g.S.Store.disk c.self.inside.engine c.take_output.new.self c.args.number c.self.invariant c.take_output.ensures.state

pub returns-clause-held : goal.returns-clause-held
returns-clause-held g c = drained-held c.self.inside.engine c.args.self.now c.take_output.new.self c.args.number c.self.view_is c.take_output.ensures.state
