use Rattle.kb_node.proofs.Streams.{carried, carried_none, carried_on}
use Rattle.kb_node.proofs.promises.each_connection_has_one_socket.Goals as goal

pub returns-clause-begun : goal.returns-clause-begun
returns-clause-begun g c = λ commits. carried_none

pub returns-clause-turned : goal.returns-clause-turned
returns-clause-turned g c = λ commits. carried_on

pub returns-clause-all : goal.returns-clause-all
returns-clause-all g c = λ commits. carried
