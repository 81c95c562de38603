use Rattle.std.proofs.Common.{◌∙◌, Err, ap}
use Rattle.std.specs.FinMap.{keys}
use Rattle.kb_dump.specs.Dump.{dump_text}
use Rattle.kbroker.proofs.Dumped.{blamed, front_of, text_kept}
use Rattle.kbroker.proofs.dump.write_files.Goals as goal

pub returns-then-is_err-clause-err : goal.returns-then-is_err-clause-err
returns-then-is_err-clause-err g c =
    let had = g.S.Store.disk c.args.store.now in
    front_of c.dump-dumped.result (dump_text (keys had.table) had.files) (g.W.Write.contents c.args.writer.now) (g.W.Write.contents c.dump-dumped.new.writer) (g.W.Write.contents c.flush.new.self)
    c.dump-dumped.ensures.ok c.dump-dumped.ensures.err c.flush.ensures.bytes

pub returns-in-Ok-clause-ok : goal.returns-in-Ok-clause-ok
returns-in-Ok-clause-ok g c =
    let had = g.S.Store.disk c.args.store.now in
    text_kept c.dump-dumped.result _ (dump_text (keys had.table) had.files) (g.W.Write.contents c.args.writer.now) (g.W.Write.contents c.dump-dumped.new.writer) (g.W.Write.contents c.flush.new.self)
    c.in-Ok.is c.dump-dumped.ensures.ok c.flush.ensures.bytes

pub returns-in-Err-clause-err : goal.returns-in-Err-clause-err
returns-in-Err-clause-err g c =
    let had = g.S.Store.disk c.args.store.now in
    front_of c.dump-dumped.result (dump_text (keys had.table) had.files) (g.W.Write.contents c.args.writer.now) (g.W.Write.contents c.dump-dumped.new.writer) (g.W.Write.contents c.flush.new.self)
    c.dump-dumped.ensures.ok c.dump-dumped.ensures.err c.flush.ensures.bytes

pub returns-in-Err-clause-cause : goal.returns-in-Err-clause-cause
returns-in-Err-clause-cause g c =
    blamed (g.S.Store.disk c.args.store.now).failures (g.S.Store.disk c.dump-dumped.new.store).failures c.in-Err.fault c.dump_fault.result c.dump_fault.ensures
    (λ e. c.dump-dumped.ensures.cause.store (c.in-Err.is ∙ ap Err e))
