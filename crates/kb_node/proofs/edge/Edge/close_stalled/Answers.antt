use Rattle.kb_node.proofs.Goes.{goes_then}
use Rattle.kb_node.proofs.edge.Edge.close_stalled.Goals as goal

pub loop-at-preserved : goal.loop-at-preserved
loop-at-preserved g c = goes_then c.loop-at.invariant c.make_way_for.ensures.goes
