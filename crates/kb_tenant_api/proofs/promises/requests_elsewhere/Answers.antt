use Rattle.kb_tenant_api.proofs.Laws.{served_waits}
use Rattle.kb_tenant_api.proofs.promises.requests_elsewhere.Goals as goal

pub returns : goal.returns
returns c = served_waits
