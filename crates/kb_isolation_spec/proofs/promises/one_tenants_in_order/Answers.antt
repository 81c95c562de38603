use Rattle.kb_isolation_spec.proofs.Runs.{those-by_number}
use Rattle.kb_isolation_spec.proofs.promises.one_tenants_in_order.Goals as goal

pub returns : goal.returns
returns c = those-by_number
