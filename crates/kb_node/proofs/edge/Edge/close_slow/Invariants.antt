use Rattle.std.proofs.Common.{◌≡◌}
use Rattle.kb_node.specs.Closing.{IsClosedUnless, IsPutOff}
use Rattle.kb_node.specs.Cores.{cores, seen}
use Rattle.kb_node.specs.Deadlines.{silent}
use Rattle.kb_node.specs.Moves.{Goes}
use Rattle.kb_node.proofs.Dealt.{AreDealt}
use Rattle.kb_node.proofs.edge.Edge.close_slow.Given as goal

-- as many were dealt with, and deeds without a moment lead here
abbrev pub invariant-loop : goal.invariant-loop
invariant-loop g l = record {
  commits : l.self.host.commits ≡ l.fn.self.host.commits;
  dealt : AreDealt (λ e. silent e.clock e.times.request_millis e.times.begun.moments.keys) (λ n a b. IsClosedUnless n (IsPutOff n a.clock a.shares a.replies.pool b.sockets.items) (cores a.sockets.items) (cores b.sockets.items) × (b.clock ≡ a.clock)) l.counter l.fn.self l.self;
  goes : Goes g.S.Store.disk g.R.Stream.Write.contents g.R.Stream.Read.remaining (seen l.fn.self.host l.fn.self.sockets.items) (seen l.self.host l.self.sockets.items);
}
