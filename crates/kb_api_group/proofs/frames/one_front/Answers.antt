use Rattle.kb_api_group.proofs.Fronts.{front-found, front-only}
use Rattle.kb_api_group.proofs.frames.one_front.Goals as goal

pub returns-clause-found : goal.returns-clause-found
returns-clause-found c = front-found

pub returns-clause-only : goal.returns-clause-only
returns-clause-only c = front-only
