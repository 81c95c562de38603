use Rattle.std.proofs.Common.{◌∙◌, ap, sym}
use Rattle.std.specs.FinMap.{keys}
use Rattle.kb_survey.proofs.Changes.{kept_twice}
use Rattle.kb_operator.specs.Report.{bytes_of_each}
use Rattle.kb_operator.proofs.Seen.{aside_next}
use Rattle.kb_operator.proofs.report.add_strays.Goals as goal

pub loop-file-preserved : goal.loop-file-preserved
loop-file-preserved g c =
    let disk = g.S.Store.disk in
    let i = c.loop-file.invariant in
    let same = c.add_stray.ensures.unchanged in
    record {
      listed = i.listed ∙ ap keys (sym same.table);
      unchanged = kept_twice (disk c.args.store.now) (disk c.loop-file.store) (disk c.add_stray.new.store) i.unchanged same;
      told = λ honest.
          let before = same.honest honest in
          aside_next c.args.path.now c.args.opened.now (disk c.args.store.now) (disk c.loop-file.store) c.args.opened.now.strays.now
          c.loop-file.file-index _ (bytes_of_each c.loop-file.texts.items) (bytes_of_each c.add_stray.new.texts.items) _ c.loop-file-test.true
          i.unchanged.table (i.unchanged.files before) (c.in_ok-add_stray.ensures.text honest) (i.told before);
    }
