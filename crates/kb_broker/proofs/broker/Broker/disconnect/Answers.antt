use Rattle.std.proofs.Common.{ap, subst}
use Rattle.kb_isolation_spec.specs.Machine.{Closes}
use Rattle.kb_broker.specs.Hosts.{OnStore}
use Rattle.kb_broker.specs.Truth.{SpeaksAt}
use Rattle.kb_broker.proofs.Happened.{disconnected-held, disconnected-ready, disconnected}
use Rattle.kb_broker.proofs.Truth.{at_closed}
use Rattle.kb_broker.proofs.broker.Broker.disconnect.Goals as goal

pub invariant_of-self : goal.invariant_of-self
invariant_of-self g c = disconnected-ready g.S.Store.disk c.self.inside.engine c.disconnect.new.self c.args.number c.self.invariant c.disconnect.ensures.state

pub returns-clause-step : goal.returns-clause-step
returns-clause-step g c = disconnected g.S.Store.disk c.self.inside.engine c.args.self.now c.disconnect.new.self c.args.number c.self.view_is c.disconnect.ensures.state

pub returns-clause-held : goal.returns-clause-held
returns-clause-held g c = disconnected-held c.self.inside.engine c.args.self.now c.disconnect.new.self c.args.number c.self.view_is c.disconnect.ensures.state

pub returns-clause-ready : goal.returns-clause-ready
returns-clause-ready g c = disconnected-ready g.S.Store.disk c.self.inside.engine c.disconnect.new.self c.args.number c.self.invariant c.disconnect.ensures.state

pub returns-clause-spoken : goal.returns-clause-spoken
returns-clause-spoken g c = subst (λ (x : OnStore g.row.S.Denot). SpeaksAt (Closes c.args.number) x.state c.disconnect.new.self.state) c.self.view_is
    (at_closed c.self.inside.engine.state c.disconnect.new.self.state c.args.number (ap (λ (x : OnStore g.row.S.Denot). x.state) c.disconnect.ensures.state))
