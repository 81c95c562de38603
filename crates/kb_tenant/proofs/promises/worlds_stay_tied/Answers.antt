use Rattle.kb_tenant.proofs.CommitMoves.{commit_tied}
use Rattle.kb_tenant.proofs.ServeMoves.{retained_tied, served_tied}
use Rattle.kb_tenant.proofs.Tied.{new_tied}
use Rattle.kb_tenant.proofs.promises.worlds_stay_tied.Goals as goal

pub returns-clause-begun : goal.returns-clause-begun
returns-clause-begun c = new_tied

pub returns-clause-served : goal.returns-clause-served
returns-clause-served c = served_tied

pub returns-clause-committed : goal.returns-clause-committed
returns-clause-committed c = commit_tied

pub returns-clause-retained : goal.returns-clause-retained
returns-clause-retained c = retained_tied
