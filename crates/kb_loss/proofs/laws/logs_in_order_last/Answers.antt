use Rattle.kb_loss.proofs.Left.{left_lasts}
use Rattle.kb_loss.proofs.laws.logs_in_order_last.Goals as goal

pub returns : goal.returns
returns c = left_lasts
