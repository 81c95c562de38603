use Rattle.kb_tenant_api.proofs.LimitsKept.{served_ordered}
use Rattle.kb_tenant_api.proofs.promises.commits_stay_ordered.Goals as goal

pub returns : goal.returns
returns c = served_ordered
