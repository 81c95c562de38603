use Rattle.kb_tenant_api.proofs.LimitsKept.{served_kept}
use Rattle.kb_tenant_api.proofs.promises.limits_are_kept.Goals as goal

pub returns : goal.returns
returns c = served_kept
