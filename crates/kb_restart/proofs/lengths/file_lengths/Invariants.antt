use Rattle.std.proofs.Common.{◌≡◌, ◌≤◌, ◌++◌, drop, map}
use Rattle.std.specs.FinMap.{keys}
use Rattle.kb_store.specs.Disk.{Keeps, len_of}
use Rattle.kb_restart.specs.Lengths.{lengths_of}
use Rattle.kb_restart.proofs.lengths.file_lengths.Given as goal

-- the lengths so far, and those of the files that are left
abbrev pub invariant-loop-file : goal.invariant-loop-file
invariant-loop-file g l =
    let old = g.S.Store.disk l.fn.store in
    let now = g.S.Store.disk l.store in
    record {
      unchanged : Keeps old now;
      later : old.failures ≤ now.failures;
      listed : l.file-items ≡ keys old.table;
      told : l.lengths.items ++ map (λ file. record { file = file; length = len_of old file }) (drop l.file-index l.file-items) ≡ lengths_of old;
    }
