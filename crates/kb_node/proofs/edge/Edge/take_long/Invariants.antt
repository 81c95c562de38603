use Rattle.std.proofs.Common.{◌≡◌, ◌<◌, ◌≤◌, ◌+◌, ◌-◌, ◌++◌, vec_len}
use Rattle.std.specs.Vec.{vec_capacity}
use Rattle.kb_node.specs.Waiting.{behind, long_ones, long_turns}
use Rattle.kb_node.proofs.edge.Edge.take_long.Given as goal

-- as many turns of the long lane were taken, of all that there are; and where there is room those whose turns they were stand in the list
abbrev pub invariant-loop : goal.invariant-loop
invariant-loop g l = record {
  some : 0 < l.room;
  rest : (l.self.host ≡ l.fn.self.host) × (l.self.sockets ≡ l.fn.self.sockets);
  lanes : l.self.lanes ≡ record l.fn.self.lanes { long = behind l.counter l.fn.self.lanes.long };
  turns : long_turns 8 524288 l.fn.self.lanes.long l.fn.self.sockets.items
      ≡ l.counter + long_turns (8 - l.counter) l.room l.self.lanes.long l.fn.self.sockets.items;
  ones : vec_len l.fn.round + 8 ≤ vec_capacity l.fn.round
      → (vec_len l.round ≡ vec_len l.fn.round + l.counter) × (vec_capacity l.fn.round ≤ vec_capacity l.round)
      × (l.fn.round.items ++ long_ones 8 524288 l.fn.self.lanes.long l.fn.self.sockets.items
      ≡ l.round.items ++ long_ones (8 - l.counter) l.room l.self.lanes.long l.fn.self.sockets.items);
}
