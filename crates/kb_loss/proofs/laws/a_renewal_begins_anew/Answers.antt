use Rattle.kb_loss.proofs.Known.{anew_of}
use Rattle.kb_loss.proofs.laws.a_renewal_begins_anew.Goals as goal

pub returns : goal.returns
returns c = anew_of
