use Rattle.kb_isolation_spec.proofs.Logins.{have-last}
use Rattle.kb_isolation_spec.proofs.LoggedIn.{have-left}
use Rattle.kb_isolation_spec.proofs.promises.bound_connections_have_logged_in.Goals as goal

pub returns-clause-machine : goal.returns-clause-machine
returns-clause-machine c = have-last

pub returns-clause-broker : goal.returns-clause-broker
returns-clause-broker c = have-left
