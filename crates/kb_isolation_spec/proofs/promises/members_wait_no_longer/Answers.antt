use Rattle.kb_isolation_spec.proofs.Pinned.{closed-groups, overrun-groups, closed-others}
use Rattle.kb_isolation_spec.proofs.promises.members_wait_no_longer.Goals as goal

pub returns-clause-closed : goal.returns-clause-closed
returns-clause-closed c = closed-groups

pub returns-clause-overrun : goal.returns-clause-overrun
returns-clause-overrun c = overrun-groups

pub returns-clause-others : goal.returns-clause-others
returns-clause-others c = closed-others
