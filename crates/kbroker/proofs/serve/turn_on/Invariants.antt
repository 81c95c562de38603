use Rattle.std.proofs.Common.{◌≡◌, None, List, length}
use Rattle.kb_server_log.specs.declared.guard.Reading.{Reading}
use Rattle.kb_node.specs.Cores.{seen}
use Rattle.kb_node.specs.Known.{lasting}
use Rattle.kbroker.specs.Turned.{AreTurned}
use Rattle.kbroker.proofs.serve.turn_on.Given as goal

-- no commit was refused, and there was one turn at each of so many readings of the clock
abbrev pub invariant-loop : goal.invariant-loop
invariant-loop g l = (l.edge.host.commits.fault ≡ None) × ((readings : List Reading) × AreTurned g.S.Store.disk (lasting g.S.Store.settled g.S.Store.disk g.S.Store.loss l.edge.host.commits) g.R.Stream.Write.contents g.R.Stream.Read.remaining readings l.fn.clock l.clock (seen l.fn.edge.host l.fn.edge.sockets.items) (seen l.edge.host l.edge.sockets.items) × (length readings ≡ l.counter))
