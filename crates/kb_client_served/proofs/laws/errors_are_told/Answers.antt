use Rattle.kb_client_served.proofs.Answered.{in_range, out_of_range, unknown}
use Rattle.kb_client_served.proofs.laws.errors_are_told.Goals as goal

pub returns-clause-unknown : goal.returns-clause-unknown
returns-clause-unknown c = unknown

pub returns-clause-out_of_range : goal.returns-clause-out_of_range
returns-clause-out_of_range c = out_of_range

pub returns-clause-in_range : goal.returns-clause-in_range
returns-clause-in_range c = in_range
