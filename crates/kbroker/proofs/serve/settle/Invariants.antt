use Rattle.std.proofs.Common.{◌≡◌, []}
use Rattle.kb_broker.specs.Hosts.{is_honest}
use Rattle.kbroker.proofs.serve.settle.Given as goal

-- nobody is connected, and the broker is as it was, where the store is honest
abbrev pub invariant-loop : goal.invariant-loop
invariant-loop g l = record {
  alone : l.broker.state.lines ≡ [];
  stays : is_honest g.S.Store.disk l.broker → is_honest g.S.Store.disk l.fn.broker × (l.broker.state ≡ l.fn.broker.state);
  commands : l.broker.commands ≡ l.fn.broker.commands;
}
