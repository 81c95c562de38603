use Rattle.kb_tenant_api.proofs.Laws.{waits_unreleased}
use Rattle.kb_tenant_api.proofs.promises.group_waits_elsewhere.Goals as goal

pub returns : goal.returns
returns c = waits_unreleased
