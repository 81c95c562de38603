use Rattle.kb_loss.proofs.Logs.{log_lasts}
use Rattle.kb_loss.proofs.laws.logs_go_on.Goals as goal

pub returns : goal.returns
returns c = log_lasts
