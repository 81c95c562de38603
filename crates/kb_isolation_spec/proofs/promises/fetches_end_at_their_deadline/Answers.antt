use Rattle.kb_isolation_spec.proofs.Moments.{ready-late, woken-late}
use Rattle.kb_isolation_spec.proofs.promises.fetches_end_at_their_deadline.Goals as goal

pub returns-clause-ready : goal.returns-clause-ready
returns-clause-ready c = ready-late

pub returns-clause-answered : goal.returns-clause-answered
returns-clause-answered c = woken-late
