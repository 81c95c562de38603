use Rattle.std.proofs.Common.{◌∙◌}
use Rattle.kb_settings.specs.Values.{values_of}
use Rattle.kb_operator.specs.Shown.{settings_text}
use Rattle.kb_operator.proofs.Pushed.{no_front, whole_front}
use Rattle.kb_operator.proofs.shown.write_settings.Goals as goal

pub returns-in_err-text-clause-err : goal.returns-in_err-text-clause-err
returns-in_err-text-clause-err g c =
    no_front c.from_residual.result (settings_text (values_of c.args.settings.now) c.args.folder.now) (g.W.Write.contents c.args.writer.now)

pub returns-clause-err : goal.returns-clause-err
returns-clause-err g c =
    whole_front c.deref.result.now (settings_text (values_of c.args.settings.now) c.args.folder.now) (g.W.Write.contents c.args.writer.now)
    (g.W.Write.contents c.write_bytes.new.writer) (g.W.Write.contents c.flush.new.self) (c.deref.ensures.value ∙ c.in_ok-text.ensures)
    c.in_ok-write_bytes.ensures.ok c.flush.ensures.bytes
