use Rattle.std.proofs.Common.{inr, refl}
use Rattle.kb_node.proofs.Alone.{alone_then}
use Rattle.kb_node.proofs.Goes.{goes_then}
use Rattle.kb_node.proofs.edge.Edge.close_unless_written.Goals as goal

pub returns-then-write_again-clause-unless : goal.returns-then-write_again-clause-unless
returns-then-write_again-clause-unless g c = record { alone = c.write_again.ensures.alone; gone = c.write_again.ensures.took c.if-write_again.true }

pub returns-clause-unless : goal.returns-clause-unless
returns-clause-unless g c = record {
  alone = alone_then _ _ _ _ c.write_again.ensures.alone c.close.ensures.closed.alone;
  gone = inr c.close.ensures.closed.gone;
}

pub returns-clause-goes : goal.returns-clause-goes
returns-clause-goes g c = goes_then c.write_again.ensures.goes c.close.ensures.goes
