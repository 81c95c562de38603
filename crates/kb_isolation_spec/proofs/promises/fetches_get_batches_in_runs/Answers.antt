use Rattle.kb_isolation_spec.proofs.FetchRuns.{run-gives, small-last}
use Rattle.kb_isolation_spec.proofs.promises.fetches_get_batches_in_runs.Goals as goal

pub returns-clause-run : goal.returns-clause-run
returns-clause-run c = run-gives

pub returns-clause-later : goal.returns-clause-later
returns-clause-later c = small-last
