use Rattle.kb_loss.proofs.Known.{anew_then}
use Rattle.kb_loss.proofs.laws.renewals_follow.Goals as goal

pub returns : goal.returns
returns c = anew_then
