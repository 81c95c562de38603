use Rattle.std.proofs.Common.{◌≡◌, ◌++◌, drop}
use Rattle.kb_store.specs.Disk.{Keeps}
use Rattle.kb_operator.specs.Report.{bytes_of_each, dropped_lines}
use Rattle.kb_operator.proofs.report.dropped_texts.Given as goal

-- the lines so far, and those of the files that are left
abbrev pub invariant-loop-file : goal.invariant-loop-file
invariant-loop-file g l =
    let old = g.S.Store.disk l.fn.store in
    let now = g.S.Store.disk l.store in
    record {
      unchanged : Keeps old now;
      told : now.honest → bytes_of_each l.texts.items ++ dropped_lines l.damaged l.opened old (drop l.file-index l.opened.files.now)
          ≡ dropped_lines l.damaged l.opened old l.opened.files.now;
    }
