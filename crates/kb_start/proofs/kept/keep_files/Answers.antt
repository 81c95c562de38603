use Rattle.std.proofs.Common.{◌∙◌, ap, sym}
use Rattle.std.specs.FinMap.{keys}
use Rattle.kb_survey.proofs.Changes.{kept_twice}
use Rattle.kb_start.proofs.Parts.{kept_next}
use Rattle.kb_start.proofs.kept.keep_files.Goals as goal

pub loop-file-preserved : goal.loop-file-preserved
loop-file-preserved g c =
    let disk = g.S.Store.disk in
    let kept = g.K.Keeper.kept in
    let i = c.loop-file.invariant in
    let same = c.keep_file.ensures.unchanged in
    record {
      listed = i.listed ∙ ap keys (sym same.table);
      unchanged = kept_twice (disk c.args.store.now) (disk c.loop-file.store) (disk c.keep_file.new.store) i.unchanged same;
      told = λ honest is.
          let before = same.honest honest in
          kept_next c.args.losses.now c.args.damaged.now (disk c.args.store.now) (disk c.loop-file.store) c.args.files.now c.loop-file.file-index _
          (kept c.loop-file.keeper) (kept c.keep_file.new.keeper) _ c.loop-file-test.true
          i.unchanged.table (i.unchanged.files before) (c.in_ok-keep_file.ensures.kept honest is)
          (i.told before (c.keep_file.ensures.honest is));
    }
