-- What becomes of a broker of which a tenant's catalog has lost producer ids.
use Rattle.std.specs.Prelude.{◌≤◌, ◌+◌, ◌^◌, ℕ, List, Result}
use Rattle.kb_topics.specs.declared.fault.CatalogFault.{CatalogFault}
use Rattle.kb_tenant.specs.Told.{FailedBy}
use Rattle.kb_tenant_api.specs.Hosted.{TenantState, kept_of}
use Rattle.kb_tenants.specs.Ids.{KeepsSkipped}

-- What the tenant at a place keeps, once its lost ids were given out, or where that was refused. The numbers are of the store's failures
-- before and after, of its next file, and of the commands that the catalog has recorded.
pub record IsSkippedAt (t : ℕ) (answer : Result (Unit {0}) CatalogFault) (failed fails : ℕ) (old new : List TenantState) : Type 0 where
  pub next : ℕ
  pub commands : ℕ
  pub kept : KeepsSkipped (FailedBy failed fails next) (2 ^ 63 ≤ commands + 1) answer (kept_of old t) (kept_of new t)
