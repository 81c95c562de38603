use Rattle.kb_tenant.proofs.Small.{committed_small, new_small, retained_small, served_small}
use Rattle.kb_tenant.proofs.promises.logs_stay_small.Goals as goal

pub returns-clause-begun : goal.returns-clause-begun
returns-clause-begun c = new_small

pub returns-clause-served : goal.returns-clause-served
returns-clause-served c = served_small

pub returns-clause-committed : goal.returns-clause-committed
returns-clause-committed c = committed_small

pub returns-clause-retained : goal.returns-clause-retained
returns-clause-retained c = retained_small
