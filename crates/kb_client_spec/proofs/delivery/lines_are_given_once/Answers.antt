use Rattle.kb_client_spec.proofs.Consuming.{lines_read}
use Rattle.kb_client_spec.proofs.delivery.lines_are_given_once.Goals as goal

pub returns : goal.returns
returns c = lines_read
