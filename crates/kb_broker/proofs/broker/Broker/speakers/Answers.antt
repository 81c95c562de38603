use Rattle.std.proofs.Common.{subst}
use Rattle.kb_isolation_spec.specs.Broker.{Rising}
use Rattle.kb_broker.specs.Hosts.{OnStore}
use Rattle.kb_broker.proofs.broker.Broker.speakers.Goals as goal

pub returns-clause-rises : goal.returns-clause-rises
returns-clause-rises g c = subst (λ (b : OnStore g.row.S.Denot). Rising 0 b.state.last b.state.lines) c.self.view_is c.self.invariant.sound.rising
