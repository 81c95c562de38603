use Rattle.kb_loss.proofs.Since.{since_synced}
use Rattle.kb_recovered.proofs.calls.sync_leaves.Goals as goal

pub returns : goal.returns
returns g c = λ files t at honest later holds.
    let old = c.args.store.now in
    let new = c.sync.new.self in
    since_synced files t 16 at old.waiting new.waiting (g.S.Store.disk old.store) (g.S.Store.disk new.store) (g.S.Store.loss old.store) (g.S.Store.loss new.store) c.sync.ensures.trims honest later holds
