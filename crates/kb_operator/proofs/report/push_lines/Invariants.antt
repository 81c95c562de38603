use Rattle.std.proofs.Common.{◌≡◌, ◌++◌, drop, string_bytes}
use Rattle.kb_operator.specs.Report.{bytes_of_each, lines_text}
use Rattle.kb_operator.proofs.report.push_lines.Given as goal

abbrev pub invariant-loop-line : goal.invariant-loop-line
invariant-loop-line l =
    string_bytes l.text ++ lines_text (bytes_of_each (drop l.line-index l.lines)) ≡ string_bytes l.initial.text ++ lines_text (bytes_of_each l.lines)
