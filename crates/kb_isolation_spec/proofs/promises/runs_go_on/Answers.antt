use Rattle.kb_isolation_spec.proofs.Isolation.{left-then}
use Rattle.kb_isolation_spec.proofs.promises.runs_go_on.Goals as goal

pub returns : goal.returns
returns c = left-then
