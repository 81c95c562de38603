use Rattle.kb_loss.proofs.Since.{cut_still, since_torn}
use Rattle.kb_recovered.proofs.calls.cut_keeps.Goals as goal

pub returns-clause-lost : goal.returns-clause-lost
returns-clause-lost g c = λ files t at may later holds.
    let l = g.S.Store.loss c.args.store.now in
    let m = g.S.Store.loss c.cut.new.self in
    let timely = g.met.S.Store.timely c.args.store.now in
    since_torn files t c.args.file c.args.len at l m may timely later c.cut.ensures.loss holds

pub returns-clause-now : goal.returns-clause-now
returns-clause-now g c = λ files t may honest was.
    cut_still files t c.args.file c.args.len (g.S.Store.disk c.args.store.now) (g.S.Store.disk c.cut.new.self) c.cut.result may c.cut.ensures.cut c.cut.ensures.refused honest was
