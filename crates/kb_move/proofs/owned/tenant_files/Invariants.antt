use Rattle.std.proofs.Common.{◌≡◌, ◌≤◌, take, filter}
use Rattle.std.specs.FinMap.{keys}
use Rattle.std.specs.List.{All}
use Rattle.kb_store.specs.Disk.{IsThere, Keeps}
use Rattle.kb_move.specs.Copied.{is_owned}
use Rattle.kb_move.proofs.owned.tenant_files.Given as goal

-- the store is as it was, and the tenant's of the first files were noted
abbrev pub invariant-loop-number : goal.invariant-loop-number
invariant-loop-number g l =
    let had = g.S.Store.disk l.fn.store in
    let has = g.S.Store.disk l.store in
    record {
      kept : Keeps had has;
      listed : l.number-items ≡ keys had.table;
      later : had.failures ≤ has.failures;
      there : All (IsThere had) l.numbers.items;
      noted : has.honest → l.numbers.items ≡ filter (is_owned l.fn.tenant had) (take l.number-index (keys had.table));
    }
