use Rattle.std.proofs.Common.{◌≡◌, take}
use Rattle.kb_broker.specs.Speakers.{speakers}
use Rattle.kb_node.specs.Cores.{seen}
use Rattle.kb_node.specs.Ready.{Hears, ready_of}
use Rattle.kb_node.specs.Traffic.{Along}
use Rattle.kb_node.proofs.edge.Edge.hear_speakers.Given as goal

-- the host stays, and of the sockets only what is remembered of their turns changes; those before are heard
abbrev pub invariant-loop-at : goal.invariant-loop-at
invariant-loop-at g l = record {
  stays : seen l.self.host l.self.sockets.items ≡ seen l.fn.self.host l.fn.self.sockets.items;
  lanes : l.self.lanes ≡ l.fn.self.lanes;
  delays : l.self.delays ≡ l.fn.self.delays;
  heard : Along Hears (take l.at (speakers l.fn.self.host.broker.state.lines)) (ready_of l.fn.self.ready l.fn.self.sockets.items) (ready_of l.self.ready l.self.sockets.items);
}
