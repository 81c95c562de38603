use Rattle.std.proofs.Common.{◌≡◌, true}
use Rattle.kb_node.specs.Commits.{tells_at_once}
use Rattle.kb_node.specs.Known.{hasty}
use Rattle.kb_node.specs.Moves.{GoesWith}
use Rattle.kb_node.specs.Cores.{seen}
use Rattle.kb_node.proofs.edge.Edge.serve_at_once.Given as goal

-- replies may go out whatever is handed on, and deeds without a moment lead here
abbrev pub invariant-loop : goal.invariant-loop
invariant-loop g l = (tells_at_once l.self.host.commits ≡ true) × GoesWith g.S.Store.disk hasty g.R.Stream.Write.contents g.R.Stream.Read.remaining (seen l.fn.self.host l.fn.self.sockets.items) (seen l.self.host l.self.sockets.items)
