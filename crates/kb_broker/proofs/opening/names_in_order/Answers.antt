use Rattle.kb_settings.proofs.NamesInOrder.{rises-in_order, in-in_order, of-in_order, only-one-in_order}
use Rattle.kb_broker.proofs.opening.names_in_order.Goals as goal

pub returns-clause-rise : goal.returns-clause-rise
returns-clause-rise c = rises-in_order

pub returns-clause-stay : goal.returns-clause-stay
returns-clause-stay c = in-in_order

pub returns-clause-no_other : goal.returns-clause-no_other
returns-clause-no_other c = of-in_order

pub returns-clause-only : goal.returns-clause-only
returns-clause-only c = only-one-in_order
