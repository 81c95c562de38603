use Rattle.std.proofs.Common.{◌≡◌}
use Rattle.kb_node.specs.Cores.{seen}
use Rattle.kb_node.proofs.edge.Edge.queue_those.Given as goal

-- the clock and the host stay, and of the sockets only what is remembered of their turns changes
abbrev pub invariant-loop-number : goal.invariant-loop-number
invariant-loop-number g l = record {
  clock : l.self.clock ≡ l.fn.self.clock;
  seen : seen l.self.host l.self.sockets.items ≡ seen l.fn.self.host l.fn.self.sockets.items;
}
