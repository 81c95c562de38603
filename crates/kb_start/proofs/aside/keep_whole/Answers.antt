use Rattle.std.proofs.Common.{◌∙◌, ◌++◌, ap}
use Rattle.kb_start.proofs.InWay.{same_wholes}
use Rattle.kb_start.proofs.aside.keep_whole.Goals as goal

pub returns-clause-kept : goal.returns-clause-kept
returns-clause-kept g c = λ honest is.
    let disk = g.S.Store.disk in
    let kept = g.K.Keeper.kept in
    let listing = c.list.ensures.unchanged in
    let before = c.keep_all.ensures.unchanged.honest honest in
    c.in_ok-keep_all.ensures.kept honest is
    ∙ ap (λ ps. kept c.args.keeper.now ++ ps)
    (same_wholes (disk c.args.store.now) (disk c.list.new.self) c.args.files.now listing.table (listing.files before))
