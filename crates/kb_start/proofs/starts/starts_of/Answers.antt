use Rattle.std.proofs.Common.{◌∙◌, ap, arith, refl, sym}
use Rattle.std.proofs.lemmas.List.{drop_all}
use Rattle.std.specs.FinMap.{keys}
use Rattle.kb_survey.proofs.Changes.{kept_twice}
use Rattle.kb_start.proofs.Recorded.{recorded_file}
use Rattle.kb_start.proofs.starts.starts_of.Goals as goal

pub loop-file-preserved : goal.loop-file-preserved
loop-file-preserved g c =
    let disk = g.S.Store.disk in
    let i = c.loop-file.invariant in
    let same = c.add_starts_at.ensures.unchanged in
    record {
      listed = i.listed ∙ ap keys (sym same.table);
      unchanged = kept_twice (disk c.args.store.now) (disk c.loop-file.store) (disk c.add_starts_at.new.store) i.unchanged same;
      later = omega (arith, i.later, c.add_starts_at.ensures.cause.later);
      told = λ honest after rest.
          let before = same.honest honest in
          i.told before after (recorded_file (disk c.args.store.now) (disk c.loop-file.store) c.args.tenant.now c.args.files.now
          c.loop-file.file-index _ c.loop-file.starts.items c.add_starts_at.new.starts.items after c.loop-file-test.true
          i.unchanged.table (i.unchanged.files before) (c.in_ok-add_starts_at.ensures.starts honest) rest);
    }

pub returns-clause-starts : goal.returns-clause-starts
returns-clause-starts g c = λ honest.
    c.loop-file.invariant.told honest c.loop-file.starts.items
    (rw (drop_all c.loop-file.file-index c.args.files.now (omega (arith, c.loop-file-test.false))) refl)
