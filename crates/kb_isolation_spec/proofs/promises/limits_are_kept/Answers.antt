use Rattle.kb_isolation_spec.proofs.LimitsKept.{left-within, own-within, run-within, turn-kept}
use Rattle.kb_isolation_spec.proofs.promises.limits_are_kept.Goals as goal

pub returns-clause-turn : goal.returns-clause-turn
returns-clause-turn c = turn-kept

pub returns-clause-run : goal.returns-clause-run
returns-clause-run c = run-within

pub returns-clause-own : goal.returns-clause-own
returns-clause-own c = own-within

pub returns-clause-left : goal.returns-clause-left
returns-clause-left c = left-within
