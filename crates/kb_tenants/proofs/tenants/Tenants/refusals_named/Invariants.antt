use Rattle.std.proofs.Common.{◌≡◌, drop}
use Rattle.std.specs.Prelude.{map}
use Rattle.kb_tenant_api.specs.Turns.{count_named}
use Rattle.kb_tenants.specs.Tenants.{state_of}
use Rattle.kb_tenants.proofs.tenants.Tenants.refusals_named.Given as goal

abbrev pub invariant-loop-tenant : goal.invariant-loop-tenant
invariant-loop-tenant g l =
    let seen = state_of g.L.PartitionLog.log (g.S.Store.disk l.self.shelf.store).files in
    count_named l.name (map seen l.self.tenants.items) ≡ count_named l.name (map seen (drop l.tenant-index l.self.tenants.items))
