use Rattle.std.proofs.Common.{◌≡◌, true}
use Rattle.kb_node.specs.Commits.{may_tell}
use Rattle.kb_node.specs.Known.{telling}
use Rattle.kb_node.specs.Moves.{GoesTellingWith}
use Rattle.kb_node.specs.Cores.{seen}
use Rattle.kb_node.proofs.edge.Edge.tell_asked.Given as goal

-- replies may go out, as before, and sockets told what there was to say
abbrev pub invariant-loop-number : goal.invariant-loop-number
invariant-loop-number g l = (may_tell l.self.host.commits ≡ true) × (l.self.host.commits ≡ l.fn.self.host.commits)
    × GoesTellingWith g.S.Store.disk (telling g.S.Store.settled g.S.Store.disk g.S.Store.loss l.fn.self.host.commits) g.R.Stream.Write.contents g.R.Stream.Read.remaining
    (seen l.fn.self.host l.fn.self.sockets.items) (seen l.self.host l.self.sockets.items)
