use Rattle.std.proofs.Common.{◌<◌, length}
use Rattle.kb_isolation_spec.specs.Machine.{work}
use Rattle.kb_broker.specs.Places.{AreIdle, number_at}
use Rattle.kb_broker.proofs.Going.{HasGone}
use Rattle.kb_broker.proofs.engine.Engine.run_turns.Given as goal

abbrev pub invariant-loop-alloc : goal.invariant-loop-alloc
invariant-loop-alloc g l = record {
  gone : HasGone g.S.Store.disk l.fn.self l.self;
  within : l.i < length l.self.state.lines;
  idle : AreIdle (number_at l.i l.self.state) l.self.state;
}

abbrev pub decreases-loop-alloc : goal.decreases-loop-alloc
decreases-loop-alloc g l = work l.self.state.lines
