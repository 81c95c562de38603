use Rattle.kb_log.specs.Log.{first_base}
use Rattle.kb_client_served.proofs.Held.{run_ends, run_is_log, trimmed}
use Rattle.kb_client_served.proofs.laws.logs_are_as_the_other_side_has_them.Goals as goal

pub returns-clause-log : goal.returns-clause-log
returns-clause-log c = λ l whole. run_is_log (first_base l.end l.batches) l.end l.batches whole.small whole.run

pub returns-clause-end : goal.returns-clause-end
returns-clause-end c = λ l whole. run_ends (first_base l.end l.batches) l.end l.batches whole.run

pub returns-clause-trimmed : goal.returns-clause-trimmed
returns-clause-trimmed c = trimmed
