use Rattle.std.proofs.Common.{◌∙◌, ap, arith, sym}
use Rattle.std.specs.FinMap.{keys}
use Rattle.kb_start.specs.Survey.{known_of}
use Rattle.kb_survey.proofs.Changes.{kept_twice}
use Rattle.kb_start.proofs.Lost.{lost_next}
use Rattle.kb_start.proofs.losses.add_files.Goals as goal

pub loop-file-preserved : goal.loop-file-preserved
loop-file-preserved g c =
    let disk = g.S.Store.disk in
    let i = c.loop-file.invariant in
    let same = c.add_left.ensures.unchanged in
    record {
      listed = i.listed ∙ ap keys (sym same.table);
      unchanged = kept_twice (disk c.args.store.now) (disk c.loop-file.store) (disk c.add_left.new.store) i.unchanged same;
      later = omega (arith, i.later, c.add_left.ensures.cause.later);
      told = λ honest.
          let before = same.honest honest in
          lost_next (known_of c.args.opened.now) c.args.used.now (disk c.args.store.now) (disk c.loop-file.store) c.args.opened.now.files.now
          c.loop-file.file-index _ c.loop-file.losses.items c.add_left.new.losses.items _ c.loop-file-test.true
          i.unchanged.table (i.unchanged.files before) (c.in_ok-add_left.ensures.losses honest) (i.told before);
    }
