use Rattle.kb_isolation_spec.proofs.Greetings.{unowned-greets}
use Rattle.kb_isolation_spec.proofs.promises.strangers_are_greeted.Goals as goal

pub returns : goal.returns
returns c = unowned-greets
