use Rattle.std.proofs.Common.{◌≡◌, true}
use Rattle.kb_isolation_spec.specs.Machine.{work}
use Rattle.kb_broker.specs.Parked.{AreAmong}
use Rattle.kb_broker.proofs.Going.{HasGone}
use Rattle.kb_broker.proofs.engine.Engine.run_among.Given as goal

-- all that can take a turn are among those, as long as that is known
abbrev pub invariant-loop-known : goal.invariant-loop-known
invariant-loop-known g l = record {
  gone : HasGone g.S.Store.disk l.fn.self l.self;
  among : l.known ≡ true → AreAmong l.able.items l.self.state;
}

abbrev pub decreases-loop-known : goal.decreases-loop-known
decreases-loop-known g l = work l.self.state.lines
