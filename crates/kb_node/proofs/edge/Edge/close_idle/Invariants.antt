use Rattle.std.proofs.Common.{◌≡◌}
use Rattle.std.specs.Prelude.{IfSome}
use Rattle.kb_node.specs.Closing.{IsClosedUnless, IsUsedOfLate}
use Rattle.kb_node.specs.Cores.{cores, seen}
use Rattle.kb_node.specs.Deadlines.{silent}
use Rattle.kb_node.specs.Numbers.{socket_of}
use Rattle.kb_node.specs.Moves.{Goes}
use Rattle.kb_node.proofs.Dealt.{AreDealt}
use Rattle.kb_node.proofs.edge.Edge.close_idle.Given as goal

-- as many were dealt with, and deeds without a moment lead here
abbrev pub invariant-loop : goal.invariant-loop
invariant-loop g l = record {
  commits : l.self.host.commits ≡ l.fn.self.host.commits;
  dealt : AreDealt (λ e. silent e.clock e.times.idle_millis e.times.looked.moments.keys) (λ n a b. IsClosedUnless n (IfSome (socket_of n a.sockets.items) (IsUsedOfLate a.times.idle_millis a.clock)) (cores a.sockets.items) (cores b.sockets.items) × (b.clock ≡ a.clock)) l.counter l.fn.self l.self;
  goes : Goes g.S.Store.disk g.R.Stream.Write.contents g.R.Stream.Read.remaining (seen l.fn.self.host l.fn.self.sockets.items) (seen l.self.host l.self.sockets.items);
}
