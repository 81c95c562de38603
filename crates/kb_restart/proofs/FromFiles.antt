-- Two runs, of brokers that opened with the same files of a tenant.
use Rattle.std.proofs.Common.{◌≡◌, ◌∙◌, ℕ, zero, suc, List, [], ◌∷◌, Option, Some, None, sym, ap, subst, refl, map, length}
use Rattle.std.specs.Prelude.{is_some, option_map, slice_get}
use Rattle.std.specs.FinMap.{get, keys}
use Rattle.std.proofs.lemmas.List.Elements.{All-head, All-tail}
use Rattle.kb_store.specs.Disk.{Disk, Files, IsLawfulDisk}
use Rattle.kb_settings.specs.declared.settings.Settings.{Settings}
use Rattle.kb_tenant_state.specs.Counts.{IsCalm}
use Rattle.kb_tenant_api.specs.Hosted.{TenantState, new_tenant, refusals_of}
use Rattle.kb_isolation_spec.specs.Machine.{Happening, Sent}
use Rattle.kb_isolation_spec.specs.Broker.{BrokerState, IsCalmFor, IsEventRun}
use Rattle.kb_isolation_spec.specs.Isolation.{own_events, own_sent}
use Rattle.kb_broker.specs.Opening.{opening_listing, opening_over, tenants_of}
use Rattle.kb_broker.specs.Runs.{sent_of}
use Rattle.kb_broker.specs.declared.opening.Listing.{Listing}
use Rattle.kb_broker.specs.declared.run.Written.{Written}
use Rattle.kb_broker.proofs.Alone.{written-alone}
use Rattle.kb_restart.specs.Alone.{HaveSameFilesOf, RanFrom, StartsFrom}
use Rattle.kb_restart.specs.Restart.{have_nothing_refused, AreReopened}
use Rattle.kb_restart.proofs.Alone.{opens_alike, starts_alone}
use Rattle.kb_restart.proofs.Numbers.{same_keys}

-- ---- refusals

none_of_new : (names : List (List ℕ)) (t : ℕ) → refusals_of (map new_tenant names) t ≡ 0
none_of_new [] t = refl
none_of_new (name ∷ names) zero = refl
none_of_new (name ∷ names) (suc t) = none_of_new names t

none_of_calm : (ts : List TenantState) (t : ℕ) → have_nothing_refused ts → refusals_of ts t ≡ 0
none_of_calm [] t all = refl
none_of_calm (x ∷ ts) zero all = All-head (λ (y : TenantState). y.refusals ≡ 0) x ts all
none_of_calm (x ∷ ts) (suc t) all = none_of_calm ts t (All-tail (λ (y : TenantState). y.refusals ≡ 0) x ts all)

-- ---- a broker that opened

-- the table of an honest store has the numbers of its files
keys_of_files : (d : Disk) → IsLawfulDisk d → d.honest → keys d.table ≡ keys d.files
keys_of_files d law honest = same_keys d.table d.files
    (λ n there. sym (some_mapped (get d.files n)) ∙ sym (ap is_some (law.lengths honest n)) ∙ there)
    (λ n there. ap is_some (law.lengths honest n) ∙ some_mapped (get d.files n) ∙ there)
  where
    some_mapped : (o : Option (List ℕ)) → is_some (option_map length o) ≡ is_some o
    some_mapped None = refl
    some_mapped (Some bytes) = refl

pub reopened_from : (d : Disk) → IsLawfulDisk d → d.honest → (names : List (List ℕ)) (ts : List TenantState) → AreReopened d.files (keys d.table) names ts → AreReopened d.files (keys d.files) names ts
reopened_from d law honest names ts found = subst (λ ns. AreReopened d.files ns names ts) (keys_of_files d law honest) found

pub runs_from : (listing : Listing) (settings : Settings) (start : BrokerState) (es : List Happening) → start ≡ opening_over listing settings start.tenants → IsEventRun 0 es → IsEventRun start.last es
runs_from listing settings start es fixed run = subst (λ n. IsEventRun n es) (sym (ap (λ (b : BrokerState). b.last) fixed)) run

module _ (listing : Listing) (settings : Settings) where
  -- it is calm to a tenant where one of its settings is to which nothing came
  calm_from : (t : ℕ) (files : Files) (start after : BrokerState) → StartsFrom listing settings files start → have_nothing_refused start.tenants → IsCalmFor t (opening_listing listing settings) after → IsCalmFor t start after
  calm_from t files start after starts none calm = record {
    own = subst (λ n. IsCalm n (refusals_of after.tenants t)) (none_of_new (tenants_of settings.users.items) t ∙ sym (none_of_calm start.tenants t none)) calm.own;
    unbound = subst (λ n. IsCalm n after.unbound_refusals) (sym (ap (λ (b : BrokerState). b.unbound_refusals) starts.fixed)) calm.unbound;
  }

  pub both_alone : (t : ℕ) (name : List ℕ) (a b : Files) (es fs : List Happening) (after own_after : BrokerState) (written own_written : List Written) → slice_get (tenants_of settings.users.items) t ≡ Some name → HaveSameFilesOf name a b
      → RanFrom listing settings a es after written → RanFrom listing settings b fs own_after own_written → fs ≡ own_events t es (opening_listing listing settings)
      → IsCalmFor t (opening_listing listing settings) after → IsCalmFor t (opening_listing listing settings) own_after
      → map sent_of own_written ≡ own_sent t es (opening_listing listing settings) (map sent_of written)
  both_alone t name a b es fs after own_after written own_written at same r q own first second =
      let fixed = r.starts.fixed in
      written-alone t es fs r.start after q.start own_after written own_written (own ∙ sym (ap (own_events t es) fixed)) r.isolated q.isolated q.connections
      (starts_alone listing settings t name a b r.start q.start es at (opens_alike name a b same) r.starts q.starts)
      (calm_from t a r.start after r.starts r.calm first) (calm_from t b q.start own_after q.starts q.calm second)
      ∙ ap (λ (z : BrokerState). own_sent t es z (map sent_of written)) fixed
