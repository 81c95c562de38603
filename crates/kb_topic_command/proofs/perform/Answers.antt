use Rattle.std.proofs.Common.{◌∙◌, ap, subst}
use Rattle.std.proofs.lemmas.Result.{on_ok_weaker}
use Rattle.std.specs.Io.KnownBytes.{Appends}
use Rattle.kb_topic_command.specs.Printing.{answer_text}
use Rattle.kb_topic_command.specs.Telling.{Explains}
use Rattle.kb_topic_command.proofs.Going.{tells_explained, tells_memory, tells_write}
use Rattle.kb_topic_command.proofs.Asked.{unprinted_fault, unprinted_same, unprinted_write}
use Rattle.kb_topic_command.proofs.perform.Goals as goal

pub returns-in_err-answer_text-in-Ok-clause-fault : goal.returns-in_err-answer_text-in-Ok-clause-fault
returns-in_err-answer_text-in-Ok-clause-fault g c =
    tells_memory c.args.session (g.R.Read.remaining c.args.reader.now) (g.R.Read.remaining c.exchange.new.reader)
    (g.W.Write.contents c.args.writer.now) (g.W.Write.contents c.exchange.new.writer) c.from_residual.result c.from_residual.ensures.1

pub returns-in-Ok-clause-printed : goal.returns-in-Ok-clause-printed
returns-in-Ok-clause-printed g c =
    let text = c.deref.ensures ∙ c.in_ok-answer_text-in-Ok.ensures
    ∙ ap (λ t. answer_text t c.in-Ok.heard) (c.task.ensures ∙ c.in-Ok.ensures.task) in
    on_ok_weaker c.print.result (λ printed. record {
      heard = c.in-Ok.heard;
      last = c.in-Ok.ensures.answer.0;
      answered = c.in-Ok.ensures.answer.1;
      printed = subst (λ x. Appends (g.P.Write.contents c.args.printer.now) (g.P.Write.contents c.print.new.printer) x) text printed;
    }) c.print.ensures.printed

pub returns-in-Ok-clause-fault : goal.returns-in-Ok-clause-fault
returns-in-Ok-clause-fault g c =
    tells_write c.args.session (g.R.Read.remaining c.args.reader.now) (g.R.Read.remaining c.exchange.new.reader)
    (g.W.Write.contents c.args.writer.now) (g.W.Write.contents c.exchange.new.writer) c.print.result
    (record { heard = c.in-Ok.heard; last = c.in-Ok.ensures.answer.0; answered = c.in-Ok.ensures.answer.1 }) c.print.ensures.fault

pub returns-clause-fault : goal.returns-clause-fault
returns-clause-fault g c =
    tells_explained c.args.session (g.R.Read.remaining c.args.reader.now) (g.R.Read.remaining c.exchange.new.reader)
    (g.W.Write.contents c.args.writer.now) (g.W.Write.contents c.exchange.new.writer) c.in-Err.fault c.explained.result c.in-Err.ensures.fault
    (subst (λ t. Explains t c.in-Err.fault c.explained.result) (c.task-in-Err.ensures ∙ c.in-Err.ensures.task) c.explained.ensures)

pub returns-in_err-answer_text-in-Ok-clause-unprinted : goal.returns-in_err-answer_text-in-Ok-clause-unprinted
returns-in_err-answer_text-in-Ok-clause-unprinted g c = unprinted_same c.from_residual.result (g.P.Write.contents c.args.printer.now)

pub returns-in-Ok-clause-unprinted : goal.returns-in-Ok-clause-unprinted
returns-in-Ok-clause-unprinted g c =
    unprinted_write c.print.result (g.P.Write.contents c.args.printer.now) (g.P.Write.contents c.print.new.printer) c.print.ensures.fault

pub returns-clause-unprinted : goal.returns-clause-unprinted
returns-clause-unprinted g c = unprinted_fault c.explained.result (g.P.Write.contents c.args.printer.now)
