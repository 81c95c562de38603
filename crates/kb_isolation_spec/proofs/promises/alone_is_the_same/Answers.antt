use Rattle.kb_isolation_spec.proofs.Alone.{sent-alone, owners-alone, alike-alone, unused-alone}
use Rattle.kb_isolation_spec.proofs.promises.alone_is_the_same.Goals as goal

pub returns-clause-same : goal.returns-clause-same
returns-clause-same c = sent-alone

pub returns-clause-owners : goal.returns-clause-owners
returns-clause-owners c = owners-alone

pub returns-clause-alike : goal.returns-clause-alike
returns-clause-alike c = alike-alone

pub returns-clause-unused : goal.returns-clause-unused
returns-clause-unused c = unused-alone
