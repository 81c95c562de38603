use Rattle.kb_loss.proofs.Since.{left_further}
use Rattle.kb_loss.proofs.laws.what_is_left_later_is_left.Goals as goal

pub returns : goal.returns
returns c = left_further
