use Rattle.kb_node.proofs.Sent.{served}
use Rattle.kb_node.proofs.promises.clients_are_sent_what_machines_write.Goals as goal

pub returns : goal.returns
returns g c = λ commits. served
