use Rattle.kb_loss.proofs.Owned.{named_owners}
use Rattle.kb_loss.proofs.laws.named_files_are_the_tenants.Goals as goal

pub returns : goal.returns
returns c = named_owners
