use Rattle.kb_durable.specs.StandingLaws.{stands_dropped}
use Rattle.kb_durable.proofs.promises.remove_stands.Goals as goal

pub returns : goal.returns
returns g c =
    let l = g.S.Store.loss c.args.store.now in
    let m = g.S.Store.loss c.remove.new.self in
    let timely = g.met.S.Store.timely c.args.store.now in
    stands_dropped (g.S.Store.disk c.args.store.now).table c.args.file l m timely c.remove.ensures.loss
