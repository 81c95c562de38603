use Rattle.kb_survey.proofs.Lost.{made_is}
use Rattle.kb_survey.proofs.promises.a_loss_is_that_inside.Goals as goal

pub returns : goal.returns
returns g c = λ s made. made_is g.S.Store.loss s made
