use Rattle.kb_tenant.proofs.Again.{retained_names, served_names}
use Rattle.kb_tenant.proofs.CommitMoves.{commit_names}
use Rattle.kb_tenant.proofs.promises.names_stay_apart.Goals as goal

pub returns-clause-begun : goal.returns-clause-begun
returns-clause-begun c = tt

pub returns-clause-served : goal.returns-clause-served
returns-clause-served c = served_names

pub returns-clause-committed : goal.returns-clause-committed
returns-clause-committed c = commit_names

pub returns-clause-retained : goal.returns-clause-retained
returns-clause-retained c = retained_names
