use Rattle.kb_isolation_spec.proofs.Pinned.{another-shuts, bare-shuts, denied-shuts}
use Rattle.kb_isolation_spec.proofs.promises.nothing_before_login.Goals as goal

pub returns-clause-request : goal.returns-clause-request
returns-clause-request c = another-shuts

pub returns-clause-denied : goal.returns-clause-denied
returns-clause-denied c = denied-shuts

pub returns-clause-bare : goal.returns-clause-bare
returns-clause-bare c = bare-shuts
