use Rattle.std.proofs.Common.{◌∙◌, ap, arith, sym}
use Rattle.std.specs.FinMap.{keys}
use Rattle.kb_survey.proofs.Changes.{kept_twice}
use Rattle.kb_start.proofs.Ends.{damaged_next}
use Rattle.kb_start.proofs.damaged.damaged_among.Goals as goal

pub loop-file-preserved : goal.loop-file-preserved
loop-file-preserved g c =
    let disk = g.S.Store.disk in
    let i = c.loop-file.invariant in
    let same = c.add_damaged.ensures.unchanged in
    record {
      listed = i.listed ∙ ap keys (sym same.table);
      unchanged = kept_twice (disk c.args.store.now) (disk c.loop-file.store) (disk c.add_damaged.new.store) i.unchanged same;
      later = omega (arith, i.later, c.add_damaged.ensures.cause.later);
      told = λ honest.
          let before = same.honest honest in
          damaged_next c.args.used.now (disk c.args.store.now) (disk c.loop-file.store) c.args.files.now c.loop-file.file-index _
          c.loop-file.found.items c.add_damaged.new.found.items _ c.loop-file-test.true
          i.unchanged.table (i.unchanged.files before) (c.in_ok-add_damaged.ensures.found honest) (i.told before);
    }
