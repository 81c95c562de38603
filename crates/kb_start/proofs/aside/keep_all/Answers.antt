use Rattle.std.proofs.Common.{◌∙◌, ap, sym}
use Rattle.std.specs.FinMap.{keys}
use Rattle.kb_survey.proofs.Changes.{kept_twice}
use Rattle.kb_start.proofs.InWay.{whole_next}
use Rattle.kb_start.proofs.aside.keep_all.Goals as goal

pub loop-file-preserved : goal.loop-file-preserved
loop-file-preserved g c =
    let disk = g.S.Store.disk in
    let kept = g.K.Keeper.kept in
    let i = c.loop-file.invariant in
    let same = c.keep_one.ensures.unchanged in
    record {
      listed = i.listed ∙ ap keys (sym same.table);
      unchanged = kept_twice (disk c.args.store.now) (disk c.loop-file.store) (disk c.keep_one.new.store) i.unchanged same;
      told = λ honest is.
          let before = same.honest honest in
          whole_next (disk c.args.store.now) (disk c.loop-file.store) c.args.files.now c.loop-file.file-index _
          (kept c.loop-file.keeper) (kept c.keep_one.new.keeper) _ c.loop-file-test.true
          i.unchanged.table (i.unchanged.files before) (c.in_ok-keep_one.ensures.kept honest is)
          (i.told before (c.keep_one.ensures.honest is));
    }
