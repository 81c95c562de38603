use Rattle.std.proofs.Common.{◌≡◌}
use Rattle.kb_node.specs.Moves.{Goes}
use Rattle.kb_node.specs.Cores.{seen}
use Rattle.kb_node.specs.Waiting.{behind, long_turns}
use Rattle.kb_node.proofs.edge.Edge.hand_on_long.Given as goal

-- the turns of the long lane were taken, and deeds without a moment lead here
abbrev pub invariant-loop-number : goal.invariant-loop-number
invariant-loop-number g l = (l.self.lanes ≡ record l.fn.self.lanes { long = behind (long_turns 8 524288 l.fn.self.lanes.long l.fn.self.sockets.items) l.fn.self.lanes.long })
    × Goes g.S.Store.disk g.R.Stream.Write.contents g.R.Stream.Read.remaining (seen l.fn.self.host l.fn.self.sockets.items) (seen l.self.host l.self.sockets.items)
