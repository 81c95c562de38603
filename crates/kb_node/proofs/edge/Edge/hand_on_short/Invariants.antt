use Rattle.std.proofs.Common.{◌≡◌, ◌-◌}
use Rattle.kb_node.specs.Moves.{Goes}
use Rattle.kb_node.specs.Cores.{seen}
use Rattle.kb_node.specs.Waiting.{behind}
use Rattle.kb_node.proofs.edge.Edge.hand_on_short.Given as goal

-- those that are left of the turns lead to the same lane, the other one stays, and deeds without a moment lead here
abbrev pub invariant-loop : goal.invariant-loop
invariant-loop g l = (behind (256 - l.counter) l.self.lanes.short ≡ behind 256 l.fn.self.lanes.short)
    × (l.self.lanes.long ≡ l.fn.self.lanes.long) × (l.self.lanes.short_rounds ≡ l.fn.self.lanes.short_rounds)
    × Goes g.S.Store.disk g.R.Stream.Write.contents g.R.Stream.Read.remaining (seen l.fn.self.host l.fn.self.sockets.items) (seen l.self.host l.self.sockets.items)
