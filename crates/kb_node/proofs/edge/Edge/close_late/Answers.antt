use Rattle.std.proofs.Common.{◌∙◌}
use Rattle.kb_node.proofs.Goes.{goes_then}
use Rattle.kb_node.proofs.edge.Edge.close_late.Goals as goal

pub returns-clause-commits : goal.returns-clause-commits
returns-clause-commits g c = c.drop_ended.ensures.commits ∙ c.close_idle.ensures.commits ∙ c.close_slow.ensures.commits

pub returns-clause-goes : goal.returns-clause-goes
returns-clause-goes g c = goes_then c.close_slow.ensures.goes (goes_then c.close_idle.ensures.goes c.drop_ended.ensures.goes)
