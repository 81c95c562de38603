use Rattle.kb_recovered.proofs.Windows.{through_same}
use Rattle.kb_recovered.proofs.commits.read_goes_on.Goals as goal

pub returns : goal.returns
returns g c = λ past files t first last holds.
    let old = c.args.store.now in
    let new = c.read_at.new.self in
    through_same past files t first last (g.S.Store.disk old.store) (g.S.Store.disk new.store) (g.S.Store.loss old.store) (g.S.Store.loss new.store) holds
    (g.met.S.Store.timely old.store) c.read_at.ensures.loss c.read_at.ensures.inside
