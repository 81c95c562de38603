use Rattle.kb_tenant.proofs.ServeMoves.{retained_waits}
use Rattle.kb_tenant.proofs.promises.retention_elsewhere.Goals as goal

pub returns : goal.returns
returns c = retained_waits
