use Rattle.kb_tenant_api.proofs.Laws.{served_again}
use Rattle.kb_tenant_api.proofs.promises.requests_again.Goals as goal

pub returns : goal.returns
returns c = served_again
