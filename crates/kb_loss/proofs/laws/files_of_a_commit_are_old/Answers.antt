use Rattle.kb_loss.proofs.Owned.{commit_old}
use Rattle.kb_loss.proofs.laws.files_of_a_commit_are_old.Goals as goal

pub returns : goal.returns
returns c = commit_old
