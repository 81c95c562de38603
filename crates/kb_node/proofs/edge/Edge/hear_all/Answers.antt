use Rattle.std.proofs.Common.{◌∙◌}
use Rattle.kb_node.proofs.edge.Edge.hear_all.Goals as goal

pub loop-place-preserved : goal.loop-place-preserved
loop-place-preserved g c = c.hear_at.ensures ∙ c.loop-place.invariant
