use Rattle.kb_loss.proofs.Tenant.{what_was}
use Rattle.kb_loss.proofs.laws.tenants_go_on.Goals as goal

pub returns : goal.returns
returns c = what_was
