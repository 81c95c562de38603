use Rattle.kb_recovered.proofs.Recovered.{keeps_what_was}
use Rattle.kb_recovered.proofs.laws.every_tenant_has_what_was_acknowledged.Goals as goal

pub returns : goal.returns
returns c = keeps_what_was
