use Rattle.std.proofs.Common.{◌≡◌, ◌≤◌, ◌++◌, List, drop, map}
use Rattle.std.specs.FinMap.{keys}
use Rattle.kb_store.specs.Disk.{Keeps}
use Rattle.kb_topics.specs.declared.command.MoveStart.{MoveStart}
use Rattle.kb_start.specs.Starts.{catalogs_of, AreRecorded}
use Rattle.kb_start.proofs.starts.starts_among.Given as goal

-- with those of the tenants that are left they are those of all
abbrev pub invariant-loop-tenant : goal.invariant-loop-tenant
invariant-loop-tenant g l =
    let old = g.S.Store.disk l.fn.store in
    let now = g.S.Store.disk l.store in
    record {
      listed : l.listed ≡ keys now.table;
      unchanged : Keeps old now;
      later : old.failures ≤ now.failures;
      told : now.honest → l.catalogs ≡ catalogs_of old l.listed → (more : List (List MoveStart)) → AreRecorded old (map (λ name. name.now) (drop l.tenant-index l.tenants)) more
          → AreRecorded old (map (λ name. name.now) l.tenants) (map (λ of. of.items) l.starts.items ++ more);
    }
