use Rattle.kb_isolation_spec.specs.Machine.{Opens, Comes, Closes}
use Rattle.kb_isolation_spec.specs.Broker.{owned_by}
use Rattle.kb_isolation_spec.proofs.Moments.{purged-concerns}
use Rattle.kb_isolation_spec.proofs.promises.own_events_are_of_own_connections.Goals as goal

pub returns-clause-opens : goal.returns-clause-opens
returns-clause-opens c = λ t n es b has. purged-concerns (owned_by t es b) es (Opens n) has

pub returns-clause-comes : goal.returns-clause-comes
returns-clause-comes c = λ t n piece es b has. purged-concerns (owned_by t es b) es (Comes n piece) has

pub returns-clause-closes : goal.returns-clause-closes
returns-clause-closes c = λ t n es b has. purged-concerns (owned_by t es b) es (Closes n) has
