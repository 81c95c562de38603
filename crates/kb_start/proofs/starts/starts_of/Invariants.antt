use Rattle.std.proofs.Common.{◌≡◌, ◌≤◌, [], List, drop}
use Rattle.std.specs.FinMap.{keys}
use Rattle.kb_store.specs.Disk.{Keeps}
use Rattle.kb_topics.specs.declared.command.MoveStart.{MoveStart}
use Rattle.kb_start.specs.Starts.{batches_of_files, RecordsEach}
use Rattle.kb_start.proofs.starts.starts_of.Given as goal

-- whatever the files that are left record behind these starts all files record
abbrev pub invariant-loop-file : goal.invariant-loop-file
invariant-loop-file g l =
    let old = g.S.Store.disk l.fn.store in
    let now = g.S.Store.disk l.store in
    record {
      listed : l.listed ≡ keys now.table;
      unchanged : Keeps old now;
      later : old.failures ≤ now.failures;
      told : now.honest → (after : List MoveStart) → RecordsEach (batches_of_files old l.tenant (drop l.file-index l.files)) l.starts.items after
          → RecordsEach (batches_of_files old l.tenant l.files) [] after;
    }
