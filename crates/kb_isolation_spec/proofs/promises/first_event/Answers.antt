use Rattle.kb_isolation_spec.proofs.Runs.{run-step}
use Rattle.kb_isolation_spec.proofs.promises.first_event.Goals as goal

pub returns : goal.returns
returns c = run-step
