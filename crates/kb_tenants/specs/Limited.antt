-- How far the groups of a tenant may grow.
use Rattle.std.specs.Prelude.{ℕ, List}
use Rattle.kb_coordinator.specs.Groups.{limited}
use Rattle.kb_coordinator.specs.declared.limits.Limits.{Limits}
use Rattle.kb_tenant_api.specs.Hosted.{Kept, TenantState, kept_of}
use Rattle.kb_tenant_api.specs.Turns.{with_kept}

-- what is kept, where its groups have these limits
abbrev pub kept_limited : Limits → Kept → Kept
kept_limited limits k = record k { groups = limited limits k.groups }

-- all tenants, where the groups of the one at a place have these limits
abbrev pub limited_at : ℕ → Limits → List TenantState → List TenantState
limited_at t limits ts = with_kept t (kept_limited limits (kept_of ts t)) ts
