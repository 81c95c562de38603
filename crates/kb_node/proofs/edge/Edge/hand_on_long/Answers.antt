use Rattle.std.proofs.Common.{◌∙◌}
use Rattle.kb_node.specs.Cores.{seen}
use Rattle.kb_node.proofs.Goes.{goes_still, goes_then}
use Rattle.kb_node.proofs.edge.Edge.hand_on_long.Goals as goal

pub loop-number-init : goal.loop-number-init
loop-number-init g c = (c.take_long.ensures.lanes, goes_still (λ i. seen (c.take_long.ensures.rest.0 i) (c.take_long.ensures.rest.1 i).items))

pub loop-number-preserved : goal.loop-number-preserved
loop-number-preserved g c = (
  c.hand_on_next.ensures.lanes ∙ c.loop-number.invariant.0,
  goes_then c.loop-number.invariant.1 c.hand_on_next.ensures.goes,
)
