use Rattle.std.proofs.Common.{ap, length}
use Rattle.kb_node.proofs.Seats.{nobody_seated}
use Rattle.kb_node.proofs.edge.Edge.open.Goals as goal

pub invariant_of-result-clause-seated : goal.invariant_of-result-clause-seated
invariant_of-result-clause-seated g c = nobody_seated c.new-5.result c.in-Ok-new-2.shares c.new-6.result.items (ap length c.new-6.ensures.items) c.in-Ok-new-2.ensures.none.1
