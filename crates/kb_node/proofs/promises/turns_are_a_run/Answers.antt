use Rattle.kb_node.specs.Known.{lasting}
use Rattle.kb_node.proofs.Goes.{run_through}
use Rattle.kb_node.proofs.promises.turns_are_a_run.Goals as goal

pub returns : goal.returns
returns g c = λ commits. run_through g.S.Store.disk (lasting g.S.Store.settled g.S.Store.disk g.S.Store.loss commits)
