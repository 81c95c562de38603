use Rattle.kb_start.proofs.Parts.{kept_all}
use Rattle.kb_start.proofs.kept.keep_dropped.Goals as goal

pub returns-clause-kept : goal.returns-clause-kept
returns-clause-kept g c = λ honest is.
    let disk = g.S.Store.disk in
    let kept = g.K.Keeper.kept in
    let listing = c.list.ensures.unchanged in
    let before = c.keep_files.ensures.unchanged.honest honest in
    kept_all c.args.losses.now c.args.damaged.now (disk c.args.store.now) (disk c.list.new.self) c.args.opened.now.files.now
    (kept c.args.keeper.now) (kept c.keep_files.new.keeper) listing.table (listing.files before) (c.in_ok-keep_files.ensures.kept honest is)
