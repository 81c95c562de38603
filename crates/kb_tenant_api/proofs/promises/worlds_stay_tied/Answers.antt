use Rattle.kb_tenant_api.proofs.Laws.{served_tied}
use Rattle.kb_tenant_api.proofs.promises.worlds_stay_tied.Goals as goal

pub returns : goal.returns
returns c = served_tied
