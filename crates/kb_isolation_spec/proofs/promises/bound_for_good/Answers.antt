use Rattle.kb_isolation_spec.proofs.Pinned.{whose-served}
use Rattle.kb_isolation_spec.proofs.promises.bound_for_good.Goals as goal

pub returns : goal.returns
returns c = whose-served
