use Rattle.std.proofs.Common.{◌≡◌, ◌≤◌, ◌<◌, ◌-◌, ◌⊎◌, ℕ, [], get_or, length}
use Rattle.kb_tenant_state.specs.Counts.{IsCalm}
use Rattle.kb_tenants.specs.Renewal.{IsCountedOnce, snapshot_of}
use Rattle.kb_isolation_spec.specs.Broker.{kept_of_tenant, refusals_of}
use Rattle.kb_broker.specs.Hosts.{is_honest}
use Rattle.kb_broker.specs.Shortened.{IsShort}
use Rattle.kbroker.proofs.catalogs.shorten_catalogs.Given as goal

-- nobody is connected, the tenants at the places so far have short catalogs, and each keeps what it kept
abbrev pub invariant-loop-place : goal.invariant-loop-place
invariant-loop-place g l = record {
  alone : l.broker.state.lines ≡ [];
  count : length l.broker.state.tenants ≡ length l.fn.broker.state.tenants;
  honest : is_honest g.S.Store.disk l.broker → is_honest g.S.Store.disk l.fn.broker;
  stays : is_honest g.S.Store.disk l.broker → (t : ℕ) → kept_of_tenant l.broker.state t ≡ kept_of_tenant l.fn.broker.state t;
  short : is_honest g.S.Store.disk l.broker → (t : ℕ) → t < l.place → IsCalm (refusals_of l.fn.broker.state t) (refusals_of l.broker.state t) → IsShort t l.broker;
  either : is_honest g.S.Store.disk l.broker → (t : ℕ)
      → (get_or l.broker.commands t 0 ≡ get_or l.fn.broker.commands t 0) ⊎ (get_or l.broker.commands t 0 ≡ snapshot_of (kept_of_tenant l.fn.broker.state t));
  grows : (t : ℕ) → refusals_of l.fn.broker.state t ≤ refusals_of l.broker.state t;
  failures : (g.S.Store.disk l.fn.broker.store).failures ≤ (g.S.Store.disk l.broker.store).failures;
  counted : (t : ℕ) → (refused : ℕ) × (refused ≤ (g.S.Store.disk l.broker.store).failures - (g.S.Store.disk l.fn.broker.store).failures)
      × IsCountedOnce refused (refusals_of l.fn.broker.state t) (refusals_of l.broker.state t);
  untouched : (t : ℕ) → l.place ≤ t → refusals_of l.broker.state t ≡ refusals_of l.fn.broker.state t;
}
