use Rattle.kb_tenant.proofs.Again.{retained_again}
use Rattle.kb_tenant.proofs.promises.retention_again.Goals as goal

pub returns : goal.returns
returns c = retained_again
