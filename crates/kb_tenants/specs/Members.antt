-- From which number on the members of tenants' groups are numbered.
use Rattle.std.specs.Prelude.{◌≡◌, ℕ, List, [], map}
use Rattle.kb_coordinator.specs.Groups as groups
use Rattle.kb_tenant_api.specs.Hosted.{Kept, TenantState, kept_of}
use Rattle.kb_tenants.specs.declared.tenants.Tenant.{Tenant}

-- what is kept, where the first new member gets that number
abbrev pub kept_numbered_from : ℕ → Kept → Kept
kept_numbered_from first k = record k { groups = groups.numbered_from first k.groups }

-- a tenant of which the first new member gets that number
abbrev pub tenant_numbered_from : ℕ → TenantState → TenantState
tenant_numbered_from first x = record x { kept = kept_numbered_from first x.kept }

-- so it is of each tenant
abbrev pub numbered_from : ℕ → List TenantState → List TenantState
numbered_from first ts = map (tenant_numbered_from first) ts

-- no tenant has a group
abbrev pub HaveNoGroup : List TenantState → Type 0
HaveNoGroup ts = (t : ℕ) → (kept_of ts t).groups.groups ≡ []

-- a tenant on its shelf, of which the first new member gets that number
abbrev pub renumbered : {L : Type 0} → ℕ → Tenant L → Tenant L
renumbered first x = record x { groups = groups.numbered_from first x.groups }

-- a tenant on its shelf that has no group
abbrev pub HasNoGroup : {L : Type 0} → Tenant L → Type 0
HasNoGroup x = x.groups.groups ≡ []
