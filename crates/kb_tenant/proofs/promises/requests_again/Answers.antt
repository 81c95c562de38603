use Rattle.kb_tenant.proofs.Again.{committed_again, served_again}
use Rattle.kb_tenant.proofs.promises.requests_again.Goals as goal

pub returns-clause-served : goal.returns-clause-served
returns-clause-served c = served_again

pub returns-clause-committed : goal.returns-clause-committed
returns-clause-committed c = committed_again
