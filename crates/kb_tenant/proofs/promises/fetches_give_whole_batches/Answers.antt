use Rattle.kb_tenant.proofs.Batches.{looked-holds, served-holds}
use Rattle.kb_tenant.proofs.promises.fetches_give_whole_batches.Goals as goal

pub returns-clause-served : goal.returns-clause-served
returns-clause-served c = served-holds

pub returns-clause-looked : goal.returns-clause-looked
returns-clause-looked c = looked-holds
