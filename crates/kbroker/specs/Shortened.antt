-- Catalogs that a start writes anew.
use Rattle.std.specs.Prelude.{◌≡◌, ◌≤◌, ◌<◌, ◌-◌, ◌⊎◌, ◌==◌, ◌||◌, ℕ, Bool, not, List, length, get_or}
use Rattle.kb_store.specs.Disk.{Disk}
use Rattle.kb_start.specs.declared.verdict.Consent.{Consent}
use Rattle.kb_tenant_state.specs.Counts.{IsCalm}
use Rattle.kb_tenants.specs.Renewal.{IsCountedOnce, snapshot_of}
use Rattle.kb_isolation_spec.specs.Broker.{BrokerState, kept_of_tenant, refusals_of}
use Rattle.kb_broker.specs.Hosts.{OnStore, is_honest}
use Rattle.kb_broker.specs.Shortened.{IsShort}

-- whether a start writes catalogs anew, where these files are of no log
abbrev pub may_shorten : Consent → List ℕ → Bool
may_shorten consent strays = not consent.drop_damaged || (length strays == 0)

-- The catalogs of all tenants are shortened. On an honest store each keeps what it kept. Where nothing was refused to one, the log of its
-- catalog has at most as many commands as its snapshot. Whatever was refused, it has those of the snapshot, or those that it had; and a
-- refusal is counted once, or as often as the store refused.
pub record AreShortened {S : Type 0} (disk : S → Disk) (old new : OnStore S) : Type 0 where
  pub count : length new.state.tenants ≡ length old.state.tenants
  pub honest : is_honest disk new → is_honest disk old
  pub stays : is_honest disk new → (t : ℕ) → kept_of_tenant new.state t ≡ kept_of_tenant old.state t
  pub short : is_honest disk new → (t : ℕ) → t < length new.state.tenants → IsCalm (refusals_of old.state t) (refusals_of new.state t)
      → IsShort t new
  pub either : is_honest disk new → (t : ℕ)
      → (get_or new.commands t 0 ≡ get_or old.commands t 0) ⊎ (get_or new.commands t 0 ≡ snapshot_of (kept_of_tenant old.state t))
  pub grows : (t : ℕ) → refusals_of old.state t ≤ refusals_of new.state t
  pub counted : (t : ℕ) → (refused : ℕ) × (refused ≤ (disk new.store).failures - (disk old.store).failures)
      × IsCountedOnce refused (refusals_of old.state t) (refusals_of new.state t)

-- the catalog of each tenant to which nothing was refused is short
abbrev pub AreShort : {S : Type 0} → OnStore S → Type 0
AreShort b = (t : ℕ) → t < length b.state.tenants → refusals_of b.state t ≡ 0 → IsShort t b
