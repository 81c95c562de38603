use Rattle.std.proofs.Common.{◌≡◌}
use Rattle.kb_node.specs.Closing.{IsClosed}
use Rattle.kb_node.specs.Cores.{cores, seen}
use Rattle.kb_node.specs.Deadlines.{due, without_stranger}
use Rattle.kb_node.specs.Moves.{Goes}
use Rattle.kb_node.proofs.Dealt.{AreDealt}
use Rattle.kb_node.proofs.edge.Edge.close_strangers.Given as goal

-- as many were dealt with, and deeds without a moment lead here
abbrev pub invariant-loop : goal.invariant-loop
invariant-loop g l = record {
  dealt : AreDealt (λ e. due e.clock e.strangers.deadlines.entries) (λ n a b. IsClosed n (cores a.sockets.items) (cores b.sockets.items) × (b.strangers.deadlines.entries ≡ without_stranger n a.strangers.deadlines.entries) × (b.clock ≡ a.clock)) l.counter l.fn.self l.self;
  goes : Goes g.S.Store.disk g.R.Stream.Write.contents g.R.Stream.Read.remaining (seen l.fn.self.host l.fn.self.sockets.items) (seen l.self.host l.self.sockets.items);
}
