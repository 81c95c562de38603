use Rattle.kb_loss.proofs.Since.{created_still, since_made}
use Rattle.kb_recovered.proofs.calls.create_keeps.Goals as goal

pub returns-clause-lost : goal.returns-clause-lost
returns-clause-lost g c = λ files t at may later holds.
    let l = g.S.Store.loss c.args.store.now in
    let m = g.S.Store.loss c.create.new.self in
    let timely = g.met.S.Store.timely c.args.store.now in
    since_made files t c.args.file at l m may timely later c.create.ensures.loss holds

pub returns-clause-now : goal.returns-clause-now
returns-clause-now g c = λ files t may honest was.
    created_still files t c.args.file (g.S.Store.disk c.args.store.now) (g.S.Store.disk c.create.new.self) c.create.result may c.create.ensures.created c.create.ensures.refused honest was
