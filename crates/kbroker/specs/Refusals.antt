-- What the log tells of the refusals of a tenant.
use Rattle.std.specs.Prelude.{ℕ, List, Option, None, Some, slice_get}
use Rattle.kb_operator.specs.declared.counts.TenantRefusals.{TenantRefusals}
use Rattle.kb_tenant_api.specs.Hosted.{TenantState}
use Rattle.kb_tenants.specs.Counts.{store_share}
use Rattle.kb_tenants.specs.declared.counts.Counts.{Counts}

-- how many requests of the tenant at a place were refused, and how many of those by the store: none where there is no tenant
abbrev pub refusals_in : List Counts → ℕ → Option TenantState → TenantRefusals
refusals_in counts place None = record { all = 0; by_disk = 0 }
refusals_in counts place (Some t) = record { all = t.refusals; by_disk = store_share counts place t.refusals }

-- ... of these tenants
abbrev pub refusals_at : ℕ → List TenantState → List Counts → TenantRefusals
refusals_at place tenants counts = refusals_in counts place (slice_get tenants place)
