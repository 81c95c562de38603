use Rattle.kb_isolation_spec.proofs.Alone.{owned-again, events-again, run-own}
use Rattle.kb_isolation_spec.proofs.promises.own_events_stay_own.Goals as goal

pub returns-clause-owners : goal.returns-clause-owners
returns-clause-owners c = owned-again

pub returns-clause-events : goal.returns-clause-events
returns-clause-events c = events-again

pub returns-clause-in_order : goal.returns-clause-in_order
returns-clause-in_order c = run-own
