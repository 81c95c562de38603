use Rattle.kb_isolation_spec.proofs.Pinned.{turns-settled}
use Rattle.kb_isolation_spec.proofs.promises.turns_end.Goals as goal

pub returns : goal.returns
returns c = turns-settled
