use Rattle.kb_tenant_api.proofs.Laws.{served_names}
use Rattle.kb_tenant_api.proofs.promises.names_stay_apart.Goals as goal

pub returns : goal.returns
returns c = served_names
