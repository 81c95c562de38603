use Rattle.kb_loss.proofs.Commits.{all_follow}
use Rattle.kb_loss.proofs.laws.commits_go_on.Goals as goal

pub returns : goal.returns
returns c = all_follow
