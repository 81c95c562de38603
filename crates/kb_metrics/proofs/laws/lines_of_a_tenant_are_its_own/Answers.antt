use Rattle.kb_metrics.proofs.TenantLines.{alike, exact}
use Rattle.kb_metrics.proofs.laws.lines_of_a_tenant_are_its_own.Goals as goal

pub returns-clause-exact : goal.returns-clause-exact
returns-clause-exact c = exact

pub returns-clause-alike : goal.returns-clause-alike
returns-clause-alike c = alike
