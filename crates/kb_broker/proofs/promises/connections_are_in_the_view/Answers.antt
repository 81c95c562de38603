use Rattle.kb_broker.proofs.Bound.{bound_lines, bound_waits}
use Rattle.kb_broker.proofs.promises.connections_are_in_the_view.Goals as goal

pub returns-clause-bound : goal.returns-clause-bound
returns-clause-bound c = λ t mine es b owns. bound_lines t mine es b owns

pub returns-clause-waiting : goal.returns-clause-waiting
returns-clause-waiting c = λ t mine es b owns. bound_waits t mine es b owns
