use Rattle.kb_loss.proofs.Logs.{whole_front}
use Rattle.kb_loss.proofs.laws.chains_go_on.Goals as goal

pub returns : goal.returns
returns c = whole_front
