use Rattle.kb_tenant_api.proofs.Laws.{served_small}
use Rattle.kb_tenant_api.proofs.promises.logs_stay_small.Goals as goal

pub returns : goal.returns
returns c = served_small
