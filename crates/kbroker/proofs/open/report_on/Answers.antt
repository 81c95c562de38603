use Rattle.std.specs.Prelude.{string_bytes}
use Rattle.kbroker.proofs.Reported.{front_report, no_report}
use Rattle.kbroker.proofs.open.report_on.Goals as goal

pub returns-in_err-names-clause-err : goal.returns-in_err-names-clause-err
returns-in_err-names-clause-err g c = no_report c.from_residual-in_err-names.result (string_bytes c.args.folder.now.folder) (g.W.Write.contents c.args.writer.now)

pub returns-in_err-write_report-clause-err : goal.returns-in_err-write_report-clause-err
returns-in_err-write_report-clause-err g c =
    front_report c.from_residual-in_err-write_report.result (string_bytes c.args.folder.now.folder) c.held-held.result c.in_ok-opened.deleted
    (g.W.Write.contents c.args.writer.now) (g.W.Write.contents c.write_report.new.writer) c.in_err-write_report.ensures.err
