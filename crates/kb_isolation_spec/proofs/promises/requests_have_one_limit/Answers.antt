use Rattle.kb_isolation_spec.proofs.RequestLimits.{limit-last, limit-left}
use Rattle.kb_isolation_spec.proofs.promises.requests_have_one_limit.Goals as goal

pub returns-clause-machine : goal.returns-clause-machine
returns-clause-machine c = limit-last

pub returns-clause-broker : goal.returns-clause-broker
returns-clause-broker c = limit-left
