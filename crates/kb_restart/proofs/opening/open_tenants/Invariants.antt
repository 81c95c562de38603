use Rattle.std.proofs.Common.{◌≡◌, ◌≤◌, length, map, take}
use Rattle.std.specs.List.{All}
use Rattle.kb_opening.specs.Tenant.{RaisesNext}
use Rattle.kb_restart.specs.Restart.{names_in, AreOwnedNamed, AreRestored, NoneLosesAny}
use Rattle.kb_segment_log.specs.Chain.{KeepsHeaders}
use Rattle.kb_restart.proofs.opening.open_tenants.Given as goal

-- the first tenants are opened
abbrev pub invariant-loop-tenant : goal.invariant-loop-tenant
invariant-loop-tenant g l =
    let first = g.S.Store.disk l.initial.shelf.store in
    let now = g.S.Store.disk l.shelf.store in
    record {
      next : RaisesNext l.initial.shelf.next l.shelf.next;
      later : first.failures ≤ now.failures;
      count : length l.tenants.items ≡ l.tenant;
      names : names_in l.tenants.items ≡ map (λ name. name.now) (take l.tenant l.names);
      sizes : All (λ p. p.segment_bytes ≡ l.fn.segment_bytes) l.tenants.items;
      restored : AreRestored first l.initial.directory l.tenants.items now l.shelf.next l.directory;
      headers : now.honest → AreOwnedNamed (map (λ name. name.now) l.names) l.fn.segment_bytes first.files l.initial.directory → KeepsHeaders first now;
      lost : now.honest → AreOwnedNamed (map (λ name. name.now) l.names) l.fn.segment_bytes first.files l.initial.directory → NoneLosesAny l.initial.directory first now;
    }
