use Rattle.kb_survey.proofs.Changes.{kept_twice}
use Rattle.kb_operator.specs.Report.{bytes_of_each}
use Rattle.kb_operator.proofs.Seen.{dropped_next}
use Rattle.kb_operator.proofs.report.dropped_texts.Goals as goal

pub loop-file-preserved : goal.loop-file-preserved
loop-file-preserved g c =
    let disk = g.S.Store.disk in
    let i = c.loop-file.invariant in
    let same = c.add_dropped.ensures.unchanged in
    record {
      unchanged = kept_twice (disk c.args.store.now) (disk c.loop-file.store) (disk c.add_dropped.new.store) i.unchanged same;
      told = λ honest.
          let before = same.honest honest in
          dropped_next c.args.damaged.now c.args.opened.now (disk c.args.store.now) (disk c.loop-file.store) c.args.opened.now.files.now
          c.loop-file.file-index _ (bytes_of_each c.loop-file.texts.items) (bytes_of_each c.add_dropped.new.texts.items) _ c.loop-file-test.true
          i.unchanged.table (i.unchanged.files before) (c.in_ok-add_dropped.ensures.text honest) (i.told before);
    }
