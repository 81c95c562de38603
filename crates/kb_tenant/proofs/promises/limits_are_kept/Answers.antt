use Rattle.kb_tenant.proofs.RequestsKept.{all_retained_kept, committed_kept, retained_kept, served_kept}
use Rattle.kb_tenant.proofs.promises.limits_are_kept.Goals as goal

pub returns-clause-served : goal.returns-clause-served
returns-clause-served c = served_kept

pub returns-clause-committed : goal.returns-clause-committed
returns-clause-committed c = committed_kept

pub returns-clause-retained : goal.returns-clause-retained
returns-clause-retained c = retained_kept

pub returns-clause-all_retained : goal.returns-clause-all_retained
returns-clause-all_retained c = all_retained_kept
