-- A broker that has just opened is at rest.
use Rattle.std.proofs.Common.{◌≡◌, ◌==◌, ◌&&◌, ◌≤◌, ◌<◌, ℕ, true, List, [], ◌∷◌, get_or, length, refl, ap, sym, subst, arith}
use Rattle.std.specs.List.{AllByRecursion}
use Rattle.std.proofs.lemmas.List.Elements.{recursion_from_All}
use Rattle.kb_tenant_api.specs.Hosted.{TenantState}
use Rattle.kb_tenant_api.specs.Turns.{all_calm}
use Rattle.kb_isolation_spec.specs.Broker.{BrokerState, kept_of_tenant, refusals_of}
use Rattle.kb_tenants.specs.Renewal.{snapshot_of}
use Rattle.kb_tenant_state.specs.Ids.{GivesFresh}
use Rattle.kbroker.specs.Ids.{AllGiveFresh}
use Rattle.kbroker.specs.Shortened.{AreShort, AreShortened}
use Rattle.kb_isolation_spec.specs.Calls.{is_calm}
use Rattle.kb_settings.specs.declared.settings.Settings.{Settings}
use Rattle.kb_broker.specs.declared.opening.Listing.{Listing}
use Rattle.kb_store.specs.Disk.{Disk}
use Rattle.kb_broker.specs.Hosts.{OnStore, is_honest}
use Rattle.kb_broker.specs.Opening.{opening_over}
use Rattle.kb_broker.specs.ScriptRun.{IsQuiet}
use Rattle.kb_restart.specs.Restart.{have_nothing_refused}

calm-each : (ts : List TenantState) → AllByRecursion (λ (x : TenantState). x.refusals ≡ 0) ts → all_calm ts ≡ true
calm-each [] none = refl
calm-each (x ∷ ts) none = subst (λ n. (n == 0 && all_calm ts) ≡ true) (sym none.0) (calm-each ts none.1)

-- no refusal has been counted
pub calm-opened : (listing : Listing) (s : Settings) (b : BrokerState) → b ≡ opening_over listing s b.tenants → have_nothing_refused b.tenants → is_calm b ≡ true
calm-opened listing s b is none = subst (λ (x : BrokerState). is_calm x ≡ true) (sym is) (calm-each b.tenants (recursion_from_All _ b.tenants none))

-- nobody is connected, who would have output
pub quiet-opened : (listing : Listing) (s : Settings) (b : BrokerState) → b ≡ opening_over listing s b.tenants → IsQuiet b
quiet-opened listing s b is = subst IsQuiet (sym is) tt

-- nobody is connected yet
pub alone-opened : (listing : Listing) (s : Settings) (b : BrokerState) → b ≡ opening_over listing s b.tenants → b.lines ≡ []
alone-opened listing s b is = ap (λ (x : BrokerState). x.lines) is

-- the producer ids that a broker gives out are fresh, where its store is honest
abbrev pub GivesFreshOn : {S : Type 0} → (S → Disk) → OnStore S → Type 0
GivesFreshOn disk b = is_honest disk b → AllGiveFresh b.state

-- they are so as long as each tenant keeps what it kept
pub fresh_kept : {S : Type 0} (disk : S → Disk) (b d : OnStore S) → length d.state.tenants ≡ length b.state.tenants
    → (is_honest disk d → is_honest disk b) → (is_honest disk d → (t : ℕ) → kept_of_tenant d.state t ≡ kept_of_tenant b.state t) → GivesFreshOn disk b → GivesFreshOn disk d
fresh_kept disk b d count before same fresh honest t lt =
    subst (λ k. GivesFresh k.world) (sym (same honest t)) (fresh (before honest) t (subst (λ n. t < n) count lt))

-- and where it is as it was
pub fresh_same : {S : Type 0} (disk : S → Disk) (b d : OnStore S) → (is_honest disk d → is_honest disk b × (d.state ≡ b.state)) → GivesFreshOn disk b → GivesFreshOn disk d
fresh_same disk b d stays fresh honest = let was = stays honest in subst AllGiveFresh (sym was.1) (fresh was.0)

-- the catalogs of a broker are short, where its store is honest
abbrev pub AreShortOn : {S : Type 0} → (S → Disk) → OnStore S → Type 0
AreShortOn disk b = is_honest disk b → AreShort b

-- so they are once they are shortened
pub short_now : {S : Type 0} (disk : S → Disk) (b d : OnStore S) → AreShortened disk b d → AreShortOn disk d
short_now disk b d done honest t lt none =
    let grows = done.grows t in
    done.short honest t lt (record { same = omega (arith, grows, none); below = omega (arith, grows, none) })

-- and where the broker is as it was
pub short_same : {S : Type 0} (disk : S → Disk) (b d : OnStore S) → (is_honest disk d → is_honest disk b × (d.state ≡ b.state)) → d.commands ≡ b.commands → AreShortOn disk b → AreShortOn disk d
short_same disk b d stays commands short honest t lt none =
    let was = stays honest in
    subst (λ ns. get_or ns t 0 ≤ snapshot_of (kept_of_tenant d.state t)) (sym commands)
    (subst (λ (x : BrokerState). get_or b.commands t 0 ≤ snapshot_of (kept_of_tenant x t)) (sym was.1)
    (short was.0 t (subst (λ (x : BrokerState). t < length x.tenants) was.1 lt) (subst (λ (x : BrokerState). refusals_of x t ≡ 0) was.1 none)))
