use Rattle.std.proofs.Common.{◌≤◌, length, arith}
use Rattle.kb_survey.proofs.Changes.{on_err}
use Rattle.kb_start.proofs.Gone.{leaves_next, leaves_still}
use Rattle.kb_start.proofs.deleted.remove_files.Goals as goal

pub returns-in_err-remove_file-clause-refused : goal.returns-in_err-remove_file-clause-refused
returns-in_err-remove_file-clause-refused g c =
    let disk = g.S.Store.disk in
    let some : c.loop-file.file-index ≤ length c.args.files.now = omega (arith, c.loop-file-test.true) in
    on_err c.from_residual-in_err-remove_file.result (
      c.loop-file.file-index,
      some,
      leaves_still c.args.files.now c.loop-file.file-index (disk c.args.store.now) (disk c.loop-file.store)
          (disk c.remove_file.new.store) c.loop-file.invariant.gone c.in_err-remove_file.ensures.refused,
    )

pub loop-file-preserved : goal.loop-file-preserved
loop-file-preserved g c =
    let disk = g.S.Store.disk in
    let i = c.loop-file.invariant in
    record {
      listed = c.in_ok-remove_file.ensures.listed;
      later = omega (arith, i.later, c.remove_file.ensures.cause.later);
      gone = leaves_next c.args.files.now c.loop-file.file-index _ (disk c.args.store.now) (disk c.loop-file.store) (disk c.remove_file.new.store)
          c.loop-file-test.true i.gone c.in_ok-remove_file.ensures.removed;
    }
