use Rattle.std.proofs.Common.{inl, inr, refl, ap}
use Rattle.kb_node.proofs.Alone.{alone_still, alone_then}
use Rattle.kb_node.proofs.edge.Edge.close_unless_used.Goals as goal

pub returns-then-is_used-clause-unless : goal.returns-then-is_used-clause-unless
returns-then-is_used-clause-unless g c = record {
  alone = alone_still _ _ _ (ap (λ x. x.sockets) c.is_used.ensures.seen);
  gone = inl (c.is_used.ensures.used c.if-is_used.true);
}

pub returns-clause-unless : goal.returns-clause-unless
returns-clause-unless g c = record {
  alone = alone_then _ _ _ _ (alone_still _ _ _ (ap (λ x. x.sockets) c.is_used.ensures.seen)) c.close.ensures.closed.alone;
  gone = inr c.close.ensures.closed.gone;
}
