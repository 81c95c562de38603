use Rattle.kb_isolation_spec.proofs.Pinned.{fed-limit, fed-shut}
use Rattle.kb_isolation_spec.proofs.promises.room_is_kept.Goals as goal

pub returns-clause-limit : goal.returns-clause-limit
returns-clause-limit c = fed-limit

pub returns-clause-shut : goal.returns-clause-shut
returns-clause-shut c = fed-shut
