use Rattle.std.proofs.Common.{◌≡◌, ◌++◌, drop}
use Rattle.std.specs.FinMap.{keys}
use Rattle.kb_store.specs.Disk.{Keeps}
use Rattle.kb_operator.specs.Report.{aside_lines, bytes_of_each}
use Rattle.kb_operator.proofs.report.add_strays.Given as goal

-- the lines so far, and those of the files that are left
abbrev pub invariant-loop-file : goal.invariant-loop-file
invariant-loop-file g l =
    let old = g.S.Store.disk l.fn.store in
    let now = g.S.Store.disk l.store in
    record {
      listed : l.listed ≡ keys now.table;
      unchanged : Keeps old now;
      told : now.honest → bytes_of_each l.texts.items ++ aside_lines l.path l.opened old (drop l.file-index l.opened.strays.now)
          ≡ bytes_of_each l.initial.texts.items ++ aside_lines l.path l.opened old l.opened.strays.now;
    }
