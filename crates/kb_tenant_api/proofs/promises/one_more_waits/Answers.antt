use Rattle.kb_tenant_api.proofs.WaitersServed.{served_told}
use Rattle.kb_tenant_api.proofs.promises.one_more_waits.Goals as goal

pub returns : goal.returns
returns c = served_told
