use Rattle.kb_loss.proofs.Tenant.{what_was_left}
use Rattle.kb_loss.proofs.laws.what_was_acknowledged_is_there.Goals as goal

pub returns : goal.returns
returns c = what_was_left
