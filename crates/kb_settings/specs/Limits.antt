-- The limits of tenants: their connections, their groups and their data; and what their clients are told.
use Rattle.std.specs.Prelude.{ℕ, List, map, length, Bool, not, ◌&&◌, nat_lt, Option, None, option_map, string_bytes}
use Rattle.std.specs.List.{list_all, list_any, sum_by}
use Rattle.std.specs.Str.{bytes_eq}
use Rattle.kb_settings.specs.Settings.{is_within, are_different}
use Rattle.kb_settings.specs.Endpoint.{host_and_port}
use Rattle.kb_settings.specs.declared.tenant_limits.GroupLimits.{GroupLimits}
use Rattle.kb_settings.specs.declared.tenant_limits.DataLimits.{DataLimits}
use Rattle.kb_settings.specs.declared.tenant_limits.TenantLimits.{TenantLimits}

-- what a tenant's groups may take, where it is not said
abbrev pub standard_groups : GroupLimits
standard_groups = record { groups = 1000; bytes = 67108864 }

-- what a tenant may have, where it is not said: 1,000,000 offsets, and no other limit
abbrev pub standard_data : DataLimits
standard_data = record { topics = None; partitions = None; offsets = 1000000; bytes = None; fetch_bytes = None }

-- a tenant's connections: how many at most, and how many are kept free for it; what its groups may take, and what it may have; and
-- the host and the port that its clients are told, where they are others than the broker's
pub record Limits : Type 0 where
  pub name : List ℕ
  pub connections : ℕ
  pub reserved_connections : ℕ
  pub groups : GroupLimits
  pub data_limits : DataLimits
  pub advertise : Option (List ℕ × ℕ)

abbrev pub limits_in : TenantLimits → Limits
limits_in t = record {
  name = string_bytes t.name;
  connections = t.connections;
  reserved_connections = t.reserved_connections;
  groups = t.groups;
  data_limits = t.data_limits;
  advertise = option_map host_and_port t.advertise;
}

-- limits of a tenant that a user names, to no more than all connections
abbrev pub is_allowed : ℕ → List (List ℕ) → Limits → Bool
is_allowed connections names t = not (nat_lt connections t.connections) && list_any (bytes_eq t.name) names

-- at most 256, no two of one name, each within these, and fewer connections are reserved than there are
abbrev pub are_limits : ℕ → List (List ℕ) → List Limits → Bool
are_limits connections names tenants =
    is_within 0 256 (length tenants) && are_different (map (λ t. t.name) tenants)
    && list_all (is_allowed connections names) tenants
    && nat_lt (sum_by (λ t. t.reserved_connections) tenants) connections
