use Rattle.std.proofs.Common.{◌≡◌, ℕ, take, true}
use Rattle.std.specs.Prelude.{Contains}
use Rattle.kb_isolation_spec.specs.Machine.{find_line}
use Rattle.kb_broker.specs.Parked.{can_in}
use Rattle.kb_broker.proofs.engine.Engine.join.Given as goal

-- those that stood there, and of the numbers so far those that can take a turn
abbrev pub invariant-loop-number : goal.invariant-loop-number
invariant-loop-number g l = record {
  before : (k : ℕ) → Contains l.fn.able.items k → Contains l.able.items k;
  added : (k : ℕ) → can_in (find_line k l.self.state.lines) ≡ true → Contains (take l.number-index l.numbers) k → Contains l.able.items k;
}
