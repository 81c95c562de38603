use Rattle.std.proofs.Common.{◌≤◌, ◌∷◌, arith, refl}
use Rattle.kb_recovered.proofs.Windows.{left_by_sync, through_next, through_sync}
use Rattle.kb_recovered.specs.Windows.{window}
use Rattle.kb_recovered.proofs.Results.{on_ok}
use Rattle.kb_recovered.proofs.commits.sync_goes_on.Goals as goal

pub returns-clause-ever : goal.returns-clause-ever
returns-clause-ever g c = λ past files t first last honest holds.
    let old = c.args.store.now in
    let new = c.sync.new.self in
    through_sync past files t first last (g.S.Store.disk old.store) (g.S.Store.disk new.store) (g.S.Store.loss old.store) (g.S.Store.loss new.store) holds
    16 old.waiting new.waiting c.sync.ensures.trims honest

pub returns-clause-left : goal.returns-clause-left
returns-clause-left g c = λ past files t first last honest holds.
    let old = c.args.store.now in
    let new = c.sync.new.self in
    left_by_sync past files t first last (g.S.Store.disk old.store) (g.S.Store.disk new.store) (g.S.Store.loss old.store) (g.S.Store.loss new.store) holds
    16 old.waiting new.waiting c.sync.ensures.trims honest

pub returns-clause-next : goal.returns-clause-next
returns-clause-next g c =
    let old = c.args.store.now in
    let new = c.sync.new.self in
    let d = g.S.Store.disk old.store in
    let e = g.S.Store.disk new.store in
    let l = g.S.Store.loss old.store in
    let m = g.S.Store.loss new.store in
    on_ok c.sync.result c.sync.ensures.lasts (λ lasts syncs past files t u first last honest holds.
    let order : first ≤ m.moment = let one = holds.ordered in let two = holds.passed in let three = c.sync.ensures.loss.later in omega (arith, one, two, three) in
    through_next (window files t old.waiting ∷ past) e.files u first e m refl order (g.met.S.Store.timely new.store)
    (through_sync past files t first last d e l m holds 16 old.waiting new.waiting c.sync.ensures.trims honest) (lasts syncs honest))
