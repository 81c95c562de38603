use Rattle.kb_tenant.proofs.RequestsKept.{committed_ordered, new_ordered, retained_ordered, served_ordered}
use Rattle.kb_tenant.proofs.promises.commits_stay_ordered.Goals as goal

pub returns-clause-begun : goal.returns-clause-begun
returns-clause-begun c = new_ordered

pub returns-clause-served : goal.returns-clause-served
returns-clause-served c = served_ordered

pub returns-clause-committed : goal.returns-clause-committed
returns-clause-committed c = committed_ordered

pub returns-clause-retained : goal.returns-clause-retained
returns-clause-retained c = retained_ordered
