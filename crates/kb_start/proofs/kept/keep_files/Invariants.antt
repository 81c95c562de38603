use Rattle.std.proofs.Common.{◌≡◌, ◌++◌, true, drop}
use Rattle.std.specs.FinMap.{keys}
use Rattle.kb_store.specs.Disk.{Keeps}
use Rattle.kb_start.specs.Kept.{parts_of}
use Rattle.kb_start.proofs.kept.keep_files.Given as goal

-- the parts so far, and those of the files that are left
abbrev pub invariant-loop-file : goal.invariant-loop-file
invariant-loop-file g l =
    let old = g.S.Store.disk l.fn.store in
    let now = g.S.Store.disk l.store in
    record {
      listed : l.listed ≡ keys now.table;
      unchanged : Keeps old now;
      told : now.honest → g.K.Keeper.is_honest l.keeper ≡ true → g.K.Keeper.kept l.keeper ++ parts_of l.losses l.damaged old (drop l.file-index l.files)
          ≡ g.K.Keeper.kept l.initial.keeper ++ parts_of l.losses l.damaged old l.files;
    }
