use Rattle.kb_client_spec.proofs.Delivering.{delivered}
use Rattle.kb_client_spec.proofs.delivery.lines_are_stored_once.Goals as goal

pub returns : goal.returns
returns c = delivered
