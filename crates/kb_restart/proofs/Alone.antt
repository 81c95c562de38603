-- A broker that opens with a tenant's files alone has of the tenant what one has that opens with the files of many.
use Rattle.std.proofs.Common.{◌≡◌, ◌∙◌, ℕ, zero, suc, Bool, true, List, [], ◌∷◌, Some, sym, ap, subst, refl}
use Rattle.std.specs.Prelude.{◌&&◌, is_some, slice_get, filter, unwrap_or, IsSome}
use Rattle.std.specs.FinMap.{get, keys}
use Rattle.std.specs.List.{Contains}
use Rattle.std.specs.Str.{bytes_eq}
use Rattle.std.proofs.lemmas.Bool.{and_parts}
use Rattle.std.proofs.lemmas.Option.{none-some}
use Rattle.kb_store.specs.Disk.{Files}
use Rattle.kb_batch.specs.Batch.{is_natural}
use Rattle.kb_segment.specs.Header.{Header, header_in}
use Rattle.kb_segment_log.specs.SegmentLog.{bytes_at}
use Rattle.kb_settings.specs.declared.settings.Settings.{Settings}
use Rattle.kb_tenant_api.specs.Hosted.{TenantState, kept_of, names_of}
use Rattle.kb_tenants.specs.Members.{kept_numbered_from, numbered_from}
use Rattle.kb_opening.specs.Opened.{Owners, IsOpened}
use Rattle.kb_opening.specs.Owners.{is_of_catalog, is_of_partition, passes, says}
use Rattle.kb_isolation_spec.specs.Machine.{Happening, those}
use Rattle.kb_isolation_spec.specs.Alone.{HasToItself}
use Rattle.kb_isolation_spec.specs.Broker.{BrokerState, owned_by}
use Rattle.kb_broker.specs.Members.{broker_numbered_from}
use Rattle.kb_broker.specs.Opening.{tenants_of}
use Rattle.kb_broker.specs.declared.opening.Listing.{Listing}
use Rattle.kb_restart.specs.Alone.{is_of_tenant, AreFilesAlone, HasFilesOf, HaveSameFilesOf, IsFileOfTenant, OpensAlike, StartsFrom}
use Rattle.kb_restart.specs.Restart.{owners_of, AreReopened}
use Rattle.kb_restart.proofs.Numbers.{key_there, same_passed}
use Rattle.kb_restart.proofs.OneWorld.{kept_same}
use Rattle.kb_restart.proofs.Read.{of_filter, passes_weaker}
use Rattle.kb_restart.proofs.Restored.{opened_stays}

-- ---- the files of a tenant

pub alone_same : (name : List ℕ) (shared own : Files) → AreFilesAlone name shared own → HaveSameFilesOf name shared own
alone_same name shared own h = record { forth = h.all; back = λ file is. sym (h.all file (h.only file is.there)) }

-- a header that names a log of a tenant names the tenant
catalog_named : (name : List ℕ) (g : ℕ) (h : Header) → is_of_catalog name g h ≡ true → is_of_tenant name h ≡ true
catalog_named name g h is =
    let last = and_parts (bytes_eq h.tenant name && is_natural 1 h.kind) (is_natural g h.generation) is in
    (and_parts (bytes_eq h.tenant name) (is_natural 1 h.kind) last.0).0

partition_named : (name : List ℕ) (i p : ℕ) (h : Header) → is_of_partition name i p h ≡ true → is_of_tenant name h ≡ true
partition_named name i p h is =
    let four = and_parts (((bytes_eq h.tenant name && is_natural 0 h.kind) && is_natural i h.instance) && is_natural p h.partition) (is_natural 0 h.generation) is in
    let three = and_parts ((bytes_eq h.tenant name && is_natural 0 h.kind) && is_natural i h.instance) (is_natural p h.partition) four.0 in
    let two = and_parts (bytes_eq h.tenant name && is_natural 0 h.kind) (is_natural i h.instance) three.0 in
    (and_parts (bytes_eq h.tenant name) (is_natural 0 h.kind) two.0).0

module _ (name : List ℕ) (test : Header → Bool) (so : (h : Header) → test h ≡ true → is_of_tenant name h ≡ true) where
  is_tenants : (f : Files) (n : ℕ) → IsSome (get f n) → says f test n ≡ true → IsFileOfTenant name f n
  is_tenants f n there said = record { there = there; named = passes_weaker test (is_of_tenant name) so (header_in (bytes_at f n)) said }

  -- what the header of a file says that of the same file says
  said_over : (from to : Files) → HasFilesOf name from to → (n : ℕ) → IsSome (get from n) → says from test n ≡ true → IsSome (get to n) × (says to test n ≡ true)
  said_over from to has n there said =
      let over = has n (is_tenants from n there said) in
      (ap is_some over ∙ there, ap (λ o. passes test (header_in (unwrap_or o []))) over ∙ said)

  files_same : (f g : Files) → HaveSameFilesOf name f g → filter (says f test) (keys f) ≡ filter (says g test) (keys g)
  files_same f g same = same_passed f g (says f test) (says g test) (said_over f g same.forth) (said_over g f same.back)

  contents_same : (f g : Files) → HaveSameFilesOf name f g → (n : ℕ) → Contains (filter (says f test) (keys f)) n → get g n ≡ get f n
  contents_same f g same n has =
      let is = of_filter (says f test) (keys f) n has in
      same.forth n (is_tenants f n (key_there f n is.0) is.1)

-- ---- what they come to

module _ (name : List ℕ) (f g : Files) (same : HaveSameFilesOf name f g) where
  owners_same : owners_of f (keys f) name ≡ owners_of g (keys g) name
  owners_same = λ j. record {
    catalog = λ h. files_same name (is_of_catalog name h) (catalog_named name h) f g same j;
    partition = λ i p. files_same name (is_of_partition name i p) (partition_named name i p) f g same j;
  }

  pub opens_alike : OpensAlike name f g
  opens_alike k logs o =
      subst (λ (of : Owners). IsOpened g of k logs) owners_same
      (opened_stays f g (owners_of f (keys f) name)
      (λ h n has. contents_same name (is_of_catalog name h) (catalog_named name h) f g same n has)
      (λ i p n has. contents_same name (is_of_partition name i p) (partition_named name i p) f g same n has) k logs o)

pub kept_alone : (name : List ℕ) (f g : Files) → OpensAlike name f g → (names : List (List ℕ)) (t : ℕ) (ts us : List TenantState) → slice_get names t ≡ Some name
    → AreReopened f (keys f) names ts → AreReopened g (keys g) names us → kept_of us t ≡ kept_of ts t
kept_alone name f g alike names t ts us at was is =
    let k = kept_of ts t in
    let x = was.each t name at in
    let y = is.each t name at in
    kept_same g (owners_of g (keys g) name) k (kept_of us t) (alike k.world.known k.world.logs x.opened) y.opened (y.groups ∙ sym x.groups)

-- ---- two brokers

numbered_at : (first t : ℕ) (ts : List TenantState) (name : List ℕ) → slice_get (names_of ts) t ≡ Some name → kept_of (numbered_from first ts) t ≡ kept_numbered_from first (kept_of ts t)
numbered_at first t [] name e = absurd (none-some name e)
numbered_at first zero (x ∷ ts) name e = refl
numbered_at first (suc t) (x ∷ ts) name e = numbered_at first t ts name e

module _ (listing : Listing) (settings : Settings) (t : ℕ) (name : List ℕ) (a b : Files) (x y : BrokerState) (es : List Happening) (at : slice_get (tenants_of settings.users.items) t ≡ Some name) (alike : OpensAlike name a b)
    (was : StartsFrom listing settings a x) (is : StartsFrom listing settings b y) where
  kept : kept_of y.tenants t ≡ kept_of x.tenants t
  kept = kept_alone name a b alike (tenants_of settings.users.items) t x.tenants y.tenants at was.found is.found

  setup : y.setup ≡ x.setup
  setup = ap (λ (z : BrokerState). z.setup) is.fixed ∙ sym (ap (λ (z : BrokerState). z.setup) was.fixed)

  clock : y.clock ≡ x.clock
  clock = ap (λ (z : BrokerState). z.clock) is.fixed ∙ sym (ap (λ (z : BrokerState). z.clock) was.fixed)

  nobody : (mine : ℕ → Bool) → y.lines ≡ those mine x.lines
  nobody mine = ap (λ (z : BrokerState). z.lines) is.fixed ∙ sym (ap (λ (z : BrokerState). those mine z.lines) was.fixed)

  pub starts_alone : HasToItself t es x y
  starts_alone = record { setup = setup; kept = kept; clock = clock; lines = nobody (owned_by t es x) }

  pub numbered_alone : (first : ℕ) → HasToItself t es (broker_numbered_from first x) (broker_numbered_from first y)
  numbered_alone first = record {
    setup = setup;
    kept =
        numbered_at first t y.tenants name (ap (λ ns. slice_get ns t) is.found.names_are ∙ at)
        ∙ ap (kept_numbered_from first) kept
        ∙ sym (numbered_at first t x.tenants name (ap (λ ns. slice_get ns t) was.found.names_are ∙ at));
    clock = clock;
    lines = nobody (owned_by t es (broker_numbered_from first x));
  }
