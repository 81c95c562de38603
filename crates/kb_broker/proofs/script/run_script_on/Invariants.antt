-- The lines that were taken have been played, and the broker is as it was at rest.
use Rattle.std.proofs.Common.{◌≡◌, ◌+◌, true, IfSome}
use Rattle.kb_isolation_spec.specs.Broker.{IsReady}
use Rattle.kb_isolation_spec.specs.Calls.{is_calm}
use Rattle.kb_broker.specs.Hosts.{is_honest}
use Rattle.kb_broker.specs.ScriptRun.{IsQuiet}
use Rattle.kb_broker.proofs.ScriptPlay.{Played}
use Rattle.kb_broker.proofs.script.run_script_on.Given as goal

abbrev pub invariant-loop-index : goal.invariant-loop-index
invariant-loop-index g l = record {
  honest : is_honest g.S.Store.disk l.broker → is_honest g.S.Store.disk l.initial.broker;
  ready : is_honest g.S.Store.disk l.broker → IsReady l.broker.state;
  quiet : is_honest g.S.Store.disk l.broker → IsQuiet l.broker.state;
  calm : is_honest g.S.Store.disk l.broker → is_calm l.broker.state ≡ true;
  played : is_honest g.S.Store.disk l.broker
      → IfSome (g.R.Read.remaining l.initial.reader) (λ xs. Played l.initial.broker.state l.broker.state xs (g.R.Read.remaining l.reader) (g.W.Write.contents l.initial.writer) (g.W.Write.contents l.writer) (l.index + 1) l.room);
}
