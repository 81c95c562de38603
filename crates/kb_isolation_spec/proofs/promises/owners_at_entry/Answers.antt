use Rattle.kb_isolation_spec.proofs.Owned.{owned-mine}
use Rattle.kb_isolation_spec.proofs.promises.owners_at_entry.Goals as goal

pub returns : goal.returns
returns c = owned-mine
