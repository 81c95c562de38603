use Rattle.std.proofs.Common.{subst}
use Rattle.kb_isolation_spec.specs.Machine.{Opens}
use Rattle.kb_broker.specs.Hosts.{OnStore}
use Rattle.kb_broker.specs.Truth.{SpeaksAt}
use Rattle.kb_broker.proofs.Happened.{connected-held, connected-ready, connected}
use Rattle.kb_broker.proofs.Truth.{at_opened}
use Rattle.kb_broker.proofs.broker.Broker.connect.Goals as goal

pub invariant_of-self : goal.invariant_of-self
invariant_of-self g c = connected-ready g.S.Store.disk c.connect.result c.self.inside.engine c.args.self.now c.connect.new.self c.args.number c.self.view_is c.self.invariant c.requires c.connect.ensures.store c.connect.ensures.ok c.connect.ensures.err

pub returns-clause-step : goal.returns-clause-step
returns-clause-step g c = connected g.S.Store.disk c.connect.result c.self.inside.engine c.args.self.now c.connect.new.self c.args.number c.self.view_is c.requires c.connect.ensures.ok c.connect.ensures.err

pub returns-clause-ready : goal.returns-clause-ready
returns-clause-ready g c = connected-ready g.S.Store.disk c.connect.result c.self.inside.engine c.args.self.now c.connect.new.self c.args.number c.self.view_is c.self.invariant c.requires c.connect.ensures.store c.connect.ensures.ok c.connect.ensures.err

pub returns-clause-held : goal.returns-clause-held
returns-clause-held g c = connected-held c.connect.result c.self.inside.engine c.args.self.now c.connect.new.self c.args.number c.self.view_is c.connect.ensures.ok c.connect.ensures.err

pub returns-clause-spoken : goal.returns-clause-spoken
returns-clause-spoken g c = subst (λ (x : OnStore g.row.S.Denot). SpeaksAt (Opens c.args.number) x.state c.connect.new.self.state) c.self.view_is
    (at_opened c.connect.result c.self.inside.engine.state c.connect.new.self.state c.args.number c.connect.ensures.ok c.connect.ensures.err)
