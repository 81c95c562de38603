use Rattle.std.proofs.Common.{◌≡◌, ◌≤◌, ◌++◌, drop}
use Rattle.std.specs.FinMap.{keys}
use Rattle.kb_store.specs.Disk.{Keeps}
use Rattle.kb_start.specs.Damaged as damaged
use Rattle.kb_start.proofs.damaged.damaged_among.Given as goal

-- those so far, and those of the files that are left
abbrev pub invariant-loop-file : goal.invariant-loop-file
invariant-loop-file g l =
    let old = g.S.Store.disk l.fn.store in
    let now = g.S.Store.disk l.store in
    record {
      listed : l.listed ≡ keys now.table;
      unchanged : Keeps old now;
      later : old.failures ≤ now.failures;
      told : now.honest → l.found.items ++ damaged.damaged_among l.used old (drop l.file-index l.files) ≡ damaged.damaged_among l.used old l.files;
    }
