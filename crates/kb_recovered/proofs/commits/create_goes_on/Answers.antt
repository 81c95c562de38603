use Rattle.kb_recovered.proofs.Windows.{through_create}
use Rattle.kb_recovered.proofs.commits.create_goes_on.Goals as goal

pub returns : goal.returns
returns g c = λ past files t first last made holds.
    let old = c.args.store.now in
    let new = c.create.new.self in
    through_create past files t first last (g.S.Store.disk old.store) (g.S.Store.disk new.store) (g.S.Store.loss old.store) (g.S.Store.loss new.store) holds
    c.args.file c.create.result made (g.met.S.Store.timely old.store) c.create.ensures.loss c.create.ensures.inside c.create.ensures.inside_err
