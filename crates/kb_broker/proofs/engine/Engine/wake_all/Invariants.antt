use Rattle.std.proofs.Common.{◌≡◌, ◌≤◌, length}
use Rattle.kb_isolation_spec.specs.Machine.{work}
use Rattle.kb_isolation_spec.specs.Turned.{IsGoing}
use Rattle.kb_broker.specs.Hosts.{is_honest, IsLaterBy}
use Rattle.kb_broker.specs.Truth.{SpeaksFor}
use Rattle.kb_broker.specs.Places.{AreWaked}
use Rattle.kb_broker.proofs.engine.Engine.wake_all.Given as goal

abbrev pub invariant-loop-i : goal.invariant-loop-i
invariant-loop-i g l =
    let disk = g.S.Store.disk in
    record {
      end : l.i-end ≡ length l.fn.self.state.lines;
      going : IsGoing l.fn.self.state l.self.state;
      later : IsLaterBy disk (SpeaksFor l.whom) l.fn.self l.self;
      work : work l.self.state.lines ≤ work l.fn.self.state.lines;
      waked : is_honest disk l.self → AreWaked l.whom l.fn.self.state l.self.state l.i;
    }
