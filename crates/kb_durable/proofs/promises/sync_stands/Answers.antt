use Rattle.kb_durable.specs.StandingLaws.{stands_cleared}
use Rattle.kb_durable.proofs.promises.sync_stands.Goals as goal

pub returns : goal.returns
returns g c =
    let l = g.S.Store.loss c.args.store.now in
    let m = g.S.Store.loss c.sync.new.self in
    let timely = g.met.S.Store.timely c.args.store.now in
    stands_cleared (g.S.Store.disk c.args.store.now).table l m timely c.sync.ensures.loss
