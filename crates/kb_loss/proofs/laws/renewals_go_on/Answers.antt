use Rattle.kb_loss.proofs.Known.{anew_on}
use Rattle.kb_loss.proofs.laws.renewals_go_on.Goals as goal

pub returns : goal.returns
returns c = anew_on
