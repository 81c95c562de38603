use Rattle.std.proofs.Common.{◌+◌, ◌≤◌, length, drop, vec_len, vec_capacity}
use Rattle.std.specs.Prelude.{map}
use Rattle.kb_isolation_spec.specs.Broker.{IsEventRun}
use Rattle.kb_isolation_spec.specs.Stranded.{NoneStranded}
use Rattle.kb_broker.specs.Hosts.{is_honest, IsLaterOn, IsReadyOn}
use Rattle.kb_broker.specs.Runs.{happenings, sent_of, connections_of}
use Rattle.kb_broker.proofs.RunHistory.{Continues}
use Rattle.kb_broker.proofs.broker.Broker.run.Given as goal

abbrev pub invariant-loop-event : goal.invariant-loop-event
invariant-loop-event g l = record {
  ready : IsReadyOn g.S.Store.disk l.self;
  later : IsLaterOn g.S.Store.disk l.fn.self l.self;
  held : is_honest g.S.Store.disk l.self → NoneStranded l.fn.self.state → NoneStranded l.self.state;
  rises : IsEventRun l.self.state.last (happenings (drop l.event-index l.events));
  room : vec_len l.written + length (connections_of (happenings (drop l.event-index l.events)) l.self.state) ≤ vec_capacity l.written;
  passes : Continues g.S.Store.disk (happenings l.events) (happenings (drop l.event-index l.events)) l.fn.self l.self (map sent_of l.written.items);
}
