use Rattle.kb_loss.proofs.Tenant.{nothing_lost}
use Rattle.kb_loss.proofs.laws.nothing_lost_is_written_in_order.Goals as goal

pub returns : goal.returns
returns c = nothing_lost
