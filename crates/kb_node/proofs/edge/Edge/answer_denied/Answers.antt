use Rattle.std.proofs.Common.{◌∙◌}
use Rattle.kb_node.proofs.edge.Edge.answer_denied.Goals as goal

pub loop-preserved : goal.loop-preserved
loop-preserved g c = c.let_answer.ensures ∙ c.loop.invariant
