use Rattle.std.proofs.Common.{◌∙◌, ap, arith, sym}
use Rattle.std.specs.FinMap.{keys}
use Rattle.kb_survey.proofs.Changes.{kept_twice}
use Rattle.kb_start.proofs.Gone.{deleted_next}
use Rattle.kb_start.proofs.deleted.add_deleted.Goals as goal

pub loop-file-preserved : goal.loop-file-preserved
loop-file-preserved g c =
    let disk = g.S.Store.disk in
    let i = c.loop-file.invariant in
    let same = c.add_file.ensures.unchanged in
    record {
      listed = i.listed ∙ ap keys (sym same.table);
      unchanged = kept_twice (disk c.args.store.now) (disk c.loop-file.store) (disk c.add_file.new.store) i.unchanged same;
      later = omega (arith, i.later, c.add_file.ensures.cause.later);
      told = λ honest.
          let before = same.honest honest in
          deleted_next c.args.catalogs.now (disk c.args.store.now) (disk c.loop-file.store) c.args.files.now c.loop-file.file-index _
          c.loop-file.deleted.files.items c.add_file.new.deleted.files.items _ c.loop-file-test.true
          i.unchanged.table (i.unchanged.files before) (c.in_ok-add_file.ensures.files honest) (i.told before);
    }
