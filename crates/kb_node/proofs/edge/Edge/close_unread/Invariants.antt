use Rattle.std.proofs.Common.{◌≡◌}
use Rattle.kb_node.specs.Closing.{IsClosedUnless, TookSome}
use Rattle.kb_node.specs.Cores.{cores, seen}
use Rattle.kb_node.specs.Deadlines.{silent}
use Rattle.kb_node.specs.Moves.{Goes}
use Rattle.kb_node.proofs.Dealt.{AreDealt}
use Rattle.kb_node.proofs.edge.Edge.close_unread.Given as goal

-- as many were dealt with, and deeds without a moment lead here
abbrev pub invariant-loop : goal.invariant-loop
invariant-loop g l = record {
  dealt : AreDealt (λ e. silent e.clock e.reply_millis e.silences.unread.moments.keys) (λ n a b. IsClosedUnless n (TookSome n (cores a.sockets.items) (cores b.sockets.items)) (cores a.sockets.items) (cores b.sockets.items) × (b.clock ≡ a.clock)) l.counter l.fn.self l.self;
  goes : Goes g.S.Store.disk g.R.Stream.Write.contents g.R.Stream.Read.remaining (seen l.fn.self.host l.fn.self.sockets.items) (seen l.self.host l.self.sockets.items);
}
