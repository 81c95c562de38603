use Rattle.kb_settings.proofs.NamesInOrder.{place-in_order, in_order-at-place}
use Rattle.kb_broker.proofs.opening.places_of_names.Goals as goal

pub returns-clause-within : goal.returns-clause-within
returns-clause-within c = place-in_order

pub returns-clause-there : goal.returns-clause-there
returns-clause-there c = in_order-at-place
