use Rattle.kb_isolation_spec.proofs.Fetches.{served-batches, woken-batches}
use Rattle.kb_isolation_spec.proofs.promises.fetches_get_whole_batches.Goals as goal

pub returns-clause-at_once : goal.returns-clause-at_once
returns-clause-at_once c = served-batches

pub returns-clause-after_a_wait : goal.returns-clause-after_a_wait
returns-clause-after_a_wait c = woken-batches
