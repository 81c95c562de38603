use Rattle.std.proofs.Common.{◌∙◌}
use Rattle.kb_node.proofs.edge.Edge.queue_those.Goals as goal

pub loop-number-preserved : goal.loop-number-preserved
loop-number-preserved g c = record {
  clock = c.queue_one.ensures.clock ∙ c.loop-number.invariant.clock;
  seen = c.queue_one.ensures.seen ∙ c.loop-number.invariant.seen;
}
