use Rattle.std.proofs.Common.{◌∙◌, ap, arith, sym}
use Rattle.std.specs.FinMap.{keys}
use Rattle.kb_start.specs.Survey.{known_of}
use Rattle.kb_survey.proofs.Changes.{kept_twice}
use Rattle.kb_start.proofs.InWay.{in_way_next}
use Rattle.kb_start.proofs.aside.add_in_way.Goals as goal

pub loop-file-preserved : goal.loop-file-preserved
loop-file-preserved g c =
    let disk = g.S.Store.disk in
    let i = c.loop-file.invariant in
    let same = c.add_file.ensures.unchanged in
    let known = known_of c.args.opened.now in
    record {
      listed = i.listed ∙ ap keys (sym same.table);
      unchanged = kept_twice (disk c.args.store.now) (disk c.loop-file.store) (disk c.add_file.new.store) i.unchanged same;
      later = omega (arith, i.later, c.add_file.ensures.cause.later);
      told = λ honest.
          let before = same.honest honest in
          in_way_next known.names c.args.opened.now.next_instances.now (disk c.args.store.now) (disk c.loop-file.store)
          c.args.opened.now.strays.now c.loop-file.file-index _ c.loop-file.files.items c.add_file.new.files.items _ c.loop-file-test.true
          i.unchanged.table (i.unchanged.files before) (c.in_ok-add_file.ensures.files honest) (i.told before);
    }
