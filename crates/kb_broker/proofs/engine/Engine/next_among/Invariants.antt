use Rattle.std.proofs.Common.{length}
use Rattle.kb_broker.specs.Parked.{AreAmong}
use Rattle.kb_broker.proofs.engine.Engine.next_among.Given as goal

-- all that can take a turn are still among those
abbrev pub invariant-loop-number : goal.invariant-loop-number
invariant-loop-number g l = record { among : AreAmong l.able.items l.self.state }

abbrev pub decreases-loop-number : goal.decreases-loop-number
decreases-loop-number g l = length l.able.items
