use Rattle.kb_durable.specs.StandingLaws.{stands_made}
use Rattle.kb_durable.proofs.promises.create_stands.Goals as goal

pub returns : goal.returns
returns g c =
    let l = g.S.Store.loss c.args.store.now in
    let m = g.S.Store.loss c.create.new.self in
    let timely = g.met.S.Store.timely c.args.store.now in
    stands_made (g.S.Store.disk c.args.store.now).table c.args.file l m c.requires timely c.create.ensures.loss
