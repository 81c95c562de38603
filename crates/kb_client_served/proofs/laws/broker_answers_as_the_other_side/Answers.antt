use Rattle.kb_client_served.proofs.Answered.{looked_so, served_so}
use Rattle.kb_client_served.proofs.laws.broker_answers_as_the_other_side.Goals as goal

pub returns-clause-served : goal.returns-clause-served
returns-clause-served c = served_so

pub returns-clause-looked : goal.returns-clause-looked
returns-clause-looked c = looked_so
