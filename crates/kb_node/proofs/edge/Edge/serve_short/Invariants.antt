use Rattle.std.proofs.Common.{◌≡◌, ◌-◌, true}
use Rattle.kb_node.specs.Commits.{tells_at_once}
use Rattle.kb_node.specs.Known.{hasty}
use Rattle.kb_node.specs.Moves.{GoesWith}
use Rattle.kb_node.specs.Cores.{seen}
use Rattle.kb_node.specs.Waiting.{behind}
use Rattle.kb_node.proofs.edge.Edge.serve_short.Given as goal

-- Replies may go out whatever is handed on. Those that are left of the turns lead to the same lane, the other one stays, and deeds without a
-- moment lead here.
abbrev pub invariant-loop : goal.invariant-loop
invariant-loop g l = (tells_at_once l.self.host.commits ≡ true)
    × (behind (16 - l.counter) l.self.lanes.short ≡ behind 16 l.fn.self.lanes.short)
    × (l.self.lanes.long ≡ l.fn.self.lanes.long) × (l.self.lanes.short_rounds ≡ l.fn.self.lanes.short_rounds)
    × GoesWith g.S.Store.disk hasty g.R.Stream.Write.contents g.R.Stream.Read.remaining (seen l.fn.self.host l.fn.self.sockets.items) (seen l.self.host l.self.sockets.items)
