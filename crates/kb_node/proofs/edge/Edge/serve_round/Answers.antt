use Rattle.std.proofs.Common.{◌∙◌}
use Rattle.kb_node.proofs.Goes.{goes_same}
use Rattle.kb_node.proofs.edge.Edge.serve_round.Goals as goal

pub returns-clause-goes : goal.returns-clause-goes
returns-clause-goes g c = goes_same (c.line_up.ensures.seen ∙ c.listen.ensures.seen ∙ c.hear_speakers.ensures.seen) c.serve.ensures.goes
