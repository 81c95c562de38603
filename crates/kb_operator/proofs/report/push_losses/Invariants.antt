use Rattle.std.proofs.Common.{◌≡◌, ◌++◌, drop, map, string_bytes}
use Rattle.kb_operator.specs.Report.{lines_text}
use Rattle.kb_operator.specs.Texts.{loss_line}
use Rattle.kb_operator.proofs.report.push_losses.Given as goal

abbrev pub invariant-loop-loss : goal.invariant-loop-loss
invariant-loop-loss l =
    string_bytes l.text ++ lines_text (map (loss_line l.path) (drop l.loss-index l.losses))
    ≡ string_bytes l.initial.text ++ lines_text (map (loss_line l.path) l.losses)
