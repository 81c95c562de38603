use Rattle.kb_node.proofs.Goes.{goes_then}
use Rattle.kb_node.proofs.edge.Edge.accept.Goals as goal

pub loop-preserved : goal.loop-preserved
loop-preserved g c = goes_then c.loop.invariant c.accept_one.ensures

pub returns-then-not-accept_one : goal.returns-then-not-accept_one
returns-then-not-accept_one g c = goes_then c.loop.invariant c.accept_one.ensures
