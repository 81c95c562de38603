use Rattle.kb_store.specs.Disk.{len_of}
use Rattle.kb_loss.proofs.Since.{appended_still, since_torn}
use Rattle.kb_recovered.proofs.calls.append_keeps.Goals as goal

pub returns-clause-lost : goal.returns-clause-lost
returns-clause-lost g c = λ files t at may later holds.
    let l = g.S.Store.loss c.args.store.now in
    let m = g.S.Store.loss c.append.new.self in
    let timely = g.met.S.Store.timely c.args.store.now in
    since_torn files t c.args.file (len_of (g.S.Store.disk c.args.store.now) c.args.file) at l m may timely later c.append.ensures.loss holds

pub returns-clause-now : goal.returns-clause-now
returns-clause-now g c = λ files t may honest was.
    appended_still files t c.args.file c.args.bytes.now (g.S.Store.disk c.args.store.now) (g.S.Store.disk c.append.new.self) c.append.result may c.append.ensures.appended c.append.ensures.refused honest was
