-- The broker that opens with settings.
use Rattle.std.specs.Prelude.{◌≡◌, ℕ, ℤ, pos, Bool, List, [], ◌∷◌, Option, Some, None, int_le, if◌then◌else◌, map, string_bytes}
use Rattle.kb_wire.specs.declared.api_key.TheConstants.{PRODUCE, FETCH, LIST_OFFSETS, METADATA, OFFSET_COMMIT, OFFSET_FETCH}
use Rattle.kb_wire.specs.declared.api_key.TheConstants.{FIND_COORDINATOR, JOIN_GROUP, HEARTBEAT, LEAVE_GROUP, SYNC_GROUP, SASL_HANDSHAKE}
use Rattle.kb_wire.specs.declared.api_key.TheConstants.{API_VERSIONS, CREATE_TOPICS, DELETE_TOPICS, DELETE_RECORDS, INIT_PRODUCER_ID}
use Rattle.kb_wire.specs.declared.api_key.TheConstants.{SASL_AUTHENTICATE}
use Rattle.kb_api_data.specs.declared.config_key.TheConstants.{DESCRIBE_CONFIGS}
use Rattle.kb_api_group.specs.declared.group_key.TheConstants.{DELETE_GROUPS, DESCRIBE_GROUPS, LIST_GROUPS}
use Rattle.kb_api_group.specs.declared.api_versions.ApiVersion.{ApiVersion}
use Rattle.kb_isolation_spec.specs.Greeting.{Setup, User as Login}
use Rattle.kb_isolation_spec.specs.Requests.{is_served}
use Rattle.kb_coordinator.specs.Groups.{none}
use Rattle.kb_tenant_api.specs.Hosted.{TenantState, kept_of, new_tenant}
use Rattle.kb_isolation_spec.specs.Broker.{BrokerState}
use Rattle.kb_settings.specs.Names.{in_order, place_of_name}
use Rattle.kb_settings.specs.Values.{values_of}
use Rattle.kb_settings.specs.declared.settings.User.{User}
use Rattle.kb_settings.specs.declared.settings.Settings.{Settings}
use Rattle.kb_store.specs.Disk.{Disk, Grew}
use Rattle.kb_store.specs.declared.fault.StoreFault.{StoreFault}
use Rattle.kb_store.specs.declared.fault.StoreFault.TheVariants as refusals
use Rattle.kb_broker.specs.Nodes.{node_named, node_unnamed}
use Rattle.kb_broker.specs.declared.opening.Listing.{Listing}
use Rattle.kb_broker.specs.declared.opening.Listing.TheVariants as listings
use Rattle.kb_broker.specs.declared.opening.OpenFault.{OpenFault}
use Rattle.kb_broker.specs.declared.opening.OpenFault.TheVariants as faults

abbrev pub tenant_of : User → List ℕ
tenant_of u = string_bytes u.tenant

-- the names of the tenants that the users name, in byte order
abbrev pub tenants_of : List User → List (List ℕ)
tenants_of users = in_order (map tenant_of users)

-- a user's login: its tenant is a place among the names
abbrev pub login_of : List (List ℕ) → User → Login
login_of names u = record { name = string_bytes u.name; password = string_bytes u.password; tenant = place_of_name (tenant_of u) names }

-- an API from one version to another
abbrev pub between : ℤ → ℕ → ℕ → ApiVersion
between key least greatest = record { api_key = key; min_version = pos least; max_version = pos greatest }

abbrev pub at_version : ℤ → ℕ → ApiVersion
at_version key version = between key version version

-- each API at one version, but Fetch at two, by rising key
abbrev pub served_versions : List ApiVersion
served_versions =
    at_version PRODUCE 3 ∷ between FETCH 4 5 ∷ at_version LIST_OFFSETS 1 ∷ at_version METADATA 1 ∷
    at_version OFFSET_COMMIT 2 ∷ at_version OFFSET_FETCH 1 ∷ at_version FIND_COORDINATOR 0 ∷
    at_version JOIN_GROUP 1 ∷ at_version HEARTBEAT 0 ∷ at_version LEAVE_GROUP 0 ∷ at_version SYNC_GROUP 0 ∷
    at_version SASL_HANDSHAKE 1 ∷ at_version API_VERSIONS 0 ∷
    at_version CREATE_TOPICS 0 ∷ at_version DELETE_TOPICS 0 ∷ at_version DELETE_RECORDS 0 ∷
    at_version INIT_PRODUCER_ID 0 ∷ at_version SASL_AUTHENTICATE 0 ∷ []

-- the same, and what stock clients ask for beside
abbrev pub stock_versions : List ApiVersion
stock_versions =
    between PRODUCE 3 6 ∷
    between FETCH 4 9 ∷
    between LIST_OFFSETS 1 4 ∷ between METADATA 0 7 ∷
    between OFFSET_COMMIT 1 6 ∷ between OFFSET_FETCH 1 5 ∷ between FIND_COORDINATOR 0 2 ∷
    between JOIN_GROUP 1 3 ∷ between HEARTBEAT 0 2 ∷ between LEAVE_GROUP 0 2 ∷ between SYNC_GROUP 0 2 ∷
    between DESCRIBE_GROUPS 0 2 ∷ between LIST_GROUPS 0 2 ∷
    between SASL_HANDSHAKE 0 1 ∷ between API_VERSIONS 0 2 ∷
    between CREATE_TOPICS 0 3 ∷ between DELETE_TOPICS 0 3 ∷ between DELETE_RECORDS 0 1 ∷
    between INIT_PRODUCER_ID 0 1 ∷ between DESCRIBE_CONFIGS 0 2 ∷ at_version SASL_AUTHENTICATE 0 ∷
    between DELETE_GROUPS 0 1 ∷ []

-- the versions that are listed
abbrev pub versions_of : Listing → List ApiVersion
versions_of listings.Served = served_versions
versions_of listings.StockClients = stock_versions

-- whether it has a version of an API
abbrev pub lists : Listing → ℤ → ℕ → Bool
lists listing key version = is_served (versions_of listing) key (pos version)

-- an API from one version to another, if there is one
abbrev pub entry_between : ℤ → ℤ → ℤ → Option ApiVersion
entry_between key least greatest =
    if int_le least greatest then Some (record { api_key = key; min_version = least; max_version = greatest }) else None

-- what is listed of an API that has a key, a least and greatest version, and a least and greatest version with stock clients
abbrev pub listed_as : Listing → ℤ × ℤ × ℤ × ℤ × ℤ → Option ApiVersion
listed_as listings.Served api = entry_between api.0 api.1 api.2
listed_as listings.StockClients api = entry_between api.0 api.3 api.4

-- what is fixed
abbrev pub opening_setup : Listing → Settings → Setup
opening_setup listing s = record {
  versions = versions_of listing;
  users = map (login_of (tenants_of s.users.items)) s.users.items;
  nodes = map (node_named listing (values_of s)) (tenants_of s.users.items);
  node = node_unnamed listing (values_of s);
  request_bytes = s.requests.request_bytes;
}

-- nobody is connected, and no time has passed, and the tenants are those
abbrev pub opening_over : Listing → Settings → List TenantState → BrokerState
opening_over listing s ts = record {
  setup = opening_setup listing s;
  tenants = ts;
  unbound_refusals = 0;
  clock = 0;
  last = 0;
  lines = [];
}

-- the tenants that the users name, none of which keeps anything
abbrev pub opening_listing : Listing → Settings → BrokerState
opening_listing listing s = opening_over listing s (map new_tenant (tenants_of s.users.items))

-- each API is listed at one version
abbrev pub opening : Settings → BrokerState
opening = opening_listing listings.Served

-- `Store` is answered only where the store's failures grew
abbrev pub BlamesStore : Disk → OpenFault → Disk → Type 0
BlamesStore old fault new = fault ≡ faults.Store → Grew old.failures new.failures

-- the store's device is the store's fault, and its want of memory is ours
abbrev pub fault_for : StoreFault → OpenFault
fault_for refusals.Device = faults.Store
fault_for refusals.Memory = faults.Memory

-- no tenant has consumer groups
abbrev pub HaveNoGroups : List TenantState → Type 0
HaveNoGroups ts = (t : ℕ) → (kept_of ts t).groups ≡ none
