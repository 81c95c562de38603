-- What becomes of a broker of which a tenant's catalog is shortened.
use Rattle.std.specs.Prelude.{◌≤◌, ◌-◌, ℕ, get_or}
use Rattle.kb_store.specs.Disk.{Disk}
use Rattle.kb_isolation_spec.specs.Broker.{kept_of_tenant}
use Rattle.kb_tenants.specs.Renewal.{IsShortened, snapshot_of}
use Rattle.kb_broker.specs.Hosts.{OnStore}

-- the log of the catalog of the tenant at a place has at most as many commands as the catalog's snapshot
abbrev pub IsShort : {S : Type 0} → ℕ → OnStore S → Type 0
IsShort t b = get_or b.commands t 0 ≤ snapshot_of (kept_of_tenant b.state t)

-- the catalog of the tenant at a place is shortened
abbrev pub IsShortenedAt : {S : Type 0} → (S → Disk) → ℕ → OnStore S → OnStore S → Type 0
IsShortenedAt disk t old new = IsShortened t ((disk new.store).failures - (disk old.store).failures) old.state.tenants new.state.tenants
    old.commands new.commands
