-- A tenant among the others of a broker: what it keeps, and what a moment and the end of a connection leave of it.
use Rattle.std.specs.Prelude.{ℕ, List, map, get_or}
use Rattle.kb_coordinator.specs.Calls as groups
use Rattle.kb_coordinator.specs.Groups.{Groups, none}
use Rattle.kb_tenant_state.specs.Calls.{retain_all}
use Rattle.kb_tenant_state.specs.World.{World, new_world}

-- what a tenant keeps from one request to the next: its topics with what is recorded of them and their logs, and its consumer groups
pub record Kept : Type 0 where
  pub world : World
  pub groups : Groups

-- nothing was made yet
abbrev pub nothing : Kept
nothing = record { world = new_world; groups = none }

abbrev pub kept_in : World → Groups → Kept
kept_in w gs = record { world = w; groups = gs }

-- what is kept after a moment, at a time of the clock in milliseconds: its groups', if a session of one ends or a deadline comes, and
-- then retention, for which each partition's settings are asked, by topic name and number
unfoldable pub passed : ℕ → Kept → Kept
passed clock kept = kept_in (retain_all clock kept.world).0 (groups.passed clock kept.groups)

-- what is kept once the connection of number n is gone on which a member waited: the member stays, and its session starts
unfoldable pub left : ℕ → ℕ → Kept → Kept
left clock n kept = record kept { groups = groups.left clock n kept.groups }

-- a tenant: its name, what it keeps, and how many refusals were counted for it
pub record TenantState : Type 0 where
  pub name : List ℕ
  pub kept : Kept
  pub refusals : ℕ

-- one that keeps nothing, for which nothing was refused
abbrev pub new_tenant : List ℕ → TenantState
new_tenant name = record { name = name; kept = nothing; refusals = 0 }

-- ---- of all tenants, by place

abbrev pub kept_of : List TenantState → ℕ → Kept
kept_of ts t = get_or (map (λ (x : TenantState). x.kept) ts) t nothing

abbrev pub refusals_of : List TenantState → ℕ → ℕ
refusals_of ts t = get_or (map (λ (x : TenantState). x.refusals) ts) t 0

abbrev pub names_of : List TenantState → List (List ℕ)
names_of ts = map (λ (x : TenantState). x.name) ts
