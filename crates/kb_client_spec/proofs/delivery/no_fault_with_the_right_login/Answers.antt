use Rattle.kb_client_spec.proofs.Delivering.{no_fault}
use Rattle.kb_client_spec.proofs.delivery.no_fault_with_the_right_login.Goals as goal

pub returns : goal.returns
returns c = no_fault
