use Rattle.std.proofs.Common.{subst}
use Rattle.kb_isolation_spec.specs.Broker.{BrokerState}
use Rattle.kb_isolation_spec.specs.RequestLimits.{HaveLimit}
use Rattle.kb_broker.proofs.Honest.{state-is}
use Rattle.kb_broker.proofs.engine.Engine.request_bytes.Goals as goal

pub returns-clause-each : goal.returns-clause-each
returns-clause-each g c = subst (λ (b : BrokerState). HaveLimit b.setup.request_bytes b.lines) (state-is _ _ c.self.view_is) c.self.invariant.3
