use Rattle.kb_loss.proofs.Since.{left_whole}
use Rattle.kb_loss.proofs.laws.what_is_still_there_is_left.Goals as goal

pub returns : goal.returns
returns c = left_whole
