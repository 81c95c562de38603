use Rattle.std.proofs.Common.{◌≡◌, ◌≤◌}
use Rattle.std.specs.FinMap.{keys}
use Rattle.kb_start.specs.Deleted.{DeletesFirst}
use Rattle.kb_start.proofs.deleted.remove_files.Given as goal

-- the files so far are gone
abbrev pub invariant-loop-file : goal.invariant-loop-file
invariant-loop-file g l =
    let old = g.S.Store.disk l.fn.store in
    let now = g.S.Store.disk l.store in
    record {
      listed : l.listed.items ≡ keys now.table;
      later : old.failures ≤ now.failures;
      gone : DeletesFirst l.file-index l.files old now;
    }
