use Rattle.std.proofs.Common.{◌≡◌, ◌≤◌, length, take}
use Rattle.kb_isolation_spec.specs.Machine.{work}
use Rattle.kb_isolation_spec.specs.Turned.{IsGoing}
use Rattle.kb_broker.specs.Hosts.{is_honest, IsLaterBy}
use Rattle.kb_broker.specs.Truth.{SpeaksFor}
use Rattle.kb_broker.specs.Parked.{AreMinded, SameBut}
use Rattle.kb_broker.proofs.engine.Engine.wake_each.Given as goal

abbrev pub invariant-loop-number : goal.invariant-loop-number
invariant-loop-number g l =
    let disk = g.S.Store.disk in
    record {
      end : l.number-index-end ≡ length l.numbers;
      going : IsGoing l.fn.self.state l.self.state;
      later : IsLaterBy disk (SpeaksFor l.whom) l.fn.self l.self;
      minded : is_honest disk l.self → AreMinded l.whom l.fn.self.state l.self.state (take l.number-index l.numbers);
      same : SameBut l.numbers l.fn.self.state l.self.state;
      work : work l.self.state.lines ≤ work l.fn.self.state.lines;
    }
