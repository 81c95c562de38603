use Rattle.kb_durable.specs.StandingLaws.{stands_cut}
use Rattle.kb_durable.proofs.promises.cut_stands.Goals as goal

pub returns : goal.returns
returns g c =
    let l = g.S.Store.loss c.args.store.now in
    let m = g.S.Store.loss c.cut.new.self in
    let timely = g.met.S.Store.timely c.args.store.now in
    stands_cut (g.S.Store.disk c.args.store.now).table c.args.file c.args.len l m timely c.cut.ensures.loss
