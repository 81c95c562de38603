use Rattle.std.specs.Prelude.{string_bytes}
use Rattle.kb_operator.specs.Report.{seen_of}
use Rattle.kb_operator.proofs.Written.{found_ok}
use Rattle.kb_operator.proofs.report.write_report.Goals as goal

pub returns-clause-ok : goal.returns-clause-ok
returns-clause-ok g c =
    found_ok c.write_found.result c.folder-path.result.now (string_bytes c.args.folder.now.folder) c.args.held c.args.deleted.now (seen_of c.in-Ok.found)
    (g.W.Write.contents c.args.writer.now) (g.W.Write.contents c.write_found.new.writer) c.folder-path.ensures c.write_found.ensures.ok
