use Rattle.std.proofs.Common.{◌≡◌, ◌≤◌, ◌++◌, drop}
use Rattle.std.specs.FinMap.{keys}
use Rattle.kb_store.specs.Disk.{Keeps}
use Rattle.kb_start.specs.Survey.{known_of, losses_of}
use Rattle.kb_start.proofs.losses.add_files.Given as goal

-- the losses so far, and those of the files that are left
abbrev pub invariant-loop-file : goal.invariant-loop-file
invariant-loop-file g l =
    let old = g.S.Store.disk l.fn.store in
    let now = g.S.Store.disk l.store in
    record {
      listed : l.listed ≡ keys now.table;
      unchanged : Keeps old now;
      later : old.failures ≤ now.failures;
      told : now.honest → l.losses.items ++ losses_of (known_of l.opened) l.used old (drop l.file-index l.opened.files.now)
          ≡ l.initial.losses.items ++ losses_of (known_of l.opened) l.used old l.opened.files.now;
    }
