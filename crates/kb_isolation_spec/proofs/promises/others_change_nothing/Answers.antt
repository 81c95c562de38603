use Rattle.kb_isolation_spec.proofs.Isolation.{sent-alike, starts-empty}
use Rattle.kb_isolation_spec.proofs.promises.others_change_nothing.Goals as goal

pub returns-clause-same : goal.returns-clause-same
returns-clause-same c = sent-alike

pub returns-clause-unused : goal.returns-clause-unused
returns-clause-unused c = starts-empty
