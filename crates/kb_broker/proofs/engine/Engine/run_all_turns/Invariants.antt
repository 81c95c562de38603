use Rattle.kb_isolation_spec.specs.Machine.{work}
use Rattle.kb_broker.proofs.Going.{HasGone}
use Rattle.kb_broker.proofs.engine.Engine.run_all_turns.Given as goal

abbrev pub invariant-loop-i : goal.invariant-loop-i
invariant-loop-i g l = record { gone : HasGone g.S.Store.disk l.fn.self l.self }

abbrev pub decreases-loop-i : goal.decreases-loop-i
decreases-loop-i g l = work l.self.state.lines
