use Rattle.kb_recovered.proofs.Windows.{through_cut}
use Rattle.kb_recovered.proofs.commits.cut_goes_on.Goals as goal

pub returns : goal.returns
returns g c = λ past files t first last may holds.
    let old = c.args.store.now in
    let new = c.cut.new.self in
    through_cut past files t first last (g.S.Store.disk old.store) (g.S.Store.disk new.store) (g.S.Store.loss old.store) (g.S.Store.loss new.store) holds
    c.args.file c.args.len c.cut.result may (g.met.S.Store.timely old.store) c.cut.ensures.loss c.cut.ensures.inside c.cut.ensures.inside_err
