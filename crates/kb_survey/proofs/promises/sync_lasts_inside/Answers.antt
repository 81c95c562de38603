use Rattle.kb_survey.proofs.Changes.{on_ok, on_oks}
use Rattle.kb_survey.proofs.Lost.{made_is}
use Rattle.kb_survey.proofs.promises.sync_lasts_inside.Goals as goal

pub returns-clause-same : goal.returns-clause-same
returns-clause-same g c = on_ok c.sync.result c.sync.ensures.made (λ made. made_is g.S.Store.loss c.sync.new.self made)

pub returns-clause-lasts : goal.returns-clause-lasts
returns-clause-lasts g c =
    on_oks c.sync.result c.sync.ensures.made c.sync.ensures.inside (λ made only settled h found left.
    only settled h found ((made_is g.S.Store.loss c.sync.new.self made).leaves found left))
