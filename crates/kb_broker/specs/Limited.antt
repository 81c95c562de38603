-- How far the groups of a broker's tenants may grow.
use Rattle.std.specs.Prelude.{ℕ, List, [], ◌∷◌}
use Rattle.kb_coordinator.specs.declared.limits.Limits.{Limits}
use Rattle.kb_settings.specs.Values.{Values, groups_of}
use Rattle.kb_tenant_api.specs.Hosted.{TenantState}
use Rattle.kb_tenants.specs.Limited as tenants
use Rattle.kb_tenants.specs.Limited.{kept_limited}
use Rattle.kb_isolation_spec.specs.Broker.{BrokerState}

-- how far settings let the groups of the tenant of that name grow
abbrev pub limits_named : Values → List ℕ → Limits
limits_named v name = record { groups = (groups_of name v).groups; bytes = (groups_of name v).bytes }

-- the same broker, where the groups of the tenant at a place have these limits
abbrev pub limited_at : ℕ → Limits → BrokerState → BrokerState
limited_at t limits b = record b { tenants = tenants.limited_at t limits b.tenants }

-- tenants of which each has the limits at its place; those behind the last of these have what they had
unfoldable pub each_limited : List Limits → List TenantState → List TenantState
each_limited [] ts = ts
each_limited (l ∷ ls) [] = []
each_limited (l ∷ ls) (x ∷ ts) = record x { kept = kept_limited l x.kept } ∷ each_limited ls ts

-- the same broker, where the groups of each tenant have the limits at its place
abbrev pub limited_by : List Limits → BrokerState → BrokerState
limited_by ls b = record b { tenants = each_limited ls b.tenants }
