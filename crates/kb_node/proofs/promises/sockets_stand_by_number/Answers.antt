use Rattle.kb_node.proofs.Numbers.{goes_keep, nobody_in_order, turn_keeps}
use Rattle.kb_node.proofs.promises.sockets_stand_by_number.Goals as goal

pub returns-clause-begun : goal.returns-clause-begun
returns-clause-begun g c = nobody_in_order

pub returns-clause-moved : goal.returns-clause-moved
returns-clause-moved g c = λ commits. goes_keep

pub returns-clause-turned : goal.returns-clause-turned
returns-clause-turned g c = λ commits. turn_keeps
