use Rattle.kb_tenant.proofs.ServeMoves.{committed_waits, served_waits}
use Rattle.kb_tenant.proofs.promises.requests_elsewhere.Goals as goal

pub returns-clause-served : goal.returns-clause-served
returns-clause-served c = served_waits

pub returns-clause-committed : goal.returns-clause-committed
returns-clause-committed c = committed_waits
