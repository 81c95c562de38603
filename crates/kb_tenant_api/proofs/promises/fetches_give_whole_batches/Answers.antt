use Rattle.kb_tenant_api.proofs.Laws.{served-holds}
use Rattle.kb_tenant_api.proofs.promises.fetches_give_whole_batches.Goals as goal

pub returns : goal.returns
returns c = served-holds
