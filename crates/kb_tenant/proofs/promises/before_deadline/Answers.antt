use Rattle.kb_tenant.proofs.Asked.{waits_until}
use Rattle.kb_tenant.proofs.promises.before_deadline.Goals as goal

pub returns : goal.returns
returns c = λ w r clock deadline now waits early. waits_until w clock r deadline waits now deadline early
