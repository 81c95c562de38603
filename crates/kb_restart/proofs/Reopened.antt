-- What the broker's tenants have, by the parts that were opened.
use Rattle.std.proofs.Common.{◌≡◌, ◌∙◌, inl, inr, ◌<◌, ℕ, zero, suc, List, [], ◌∷◌, Some, refl, sym, ap, subst, arith, map, length}
use Rattle.std.specs.Prelude.{slice_get, option_map, pos}
use Rattle.std.specs.FinMap.{keys}
use Rattle.std.specs.List.{All, zip}
use Rattle.std.proofs.lemmas.Option.{get_or_from_slice_get, slice_get-map, slice_get_within}
use Rattle.std.proofs.lemmas.List.Elements.{All-cons, All-head, All-nil, All-tail}
use Rattle.std.proofs.lemmas.Simd.{map-map}
use Rattle.kb_store.specs.Disk.{Disk, Files, Keeps}
use Rattle.kb_coordinator.specs.Groups.{none}
use Rattle.kb_segment_log.specs.SegmentLog.{segment_log, Clears}
use Rattle.kb_segment_log.specs.declared.log.SegmentLog.{SegmentLog}
use Rattle.kb_segment_log.proofs.Opened.{clears_kept}
use Rattle.kb_topics.specs.Catalog.{known}
use Rattle.kb_topics.specs.Known.{Known, partition_at}
use Rattle.kb_tenant_state.specs.Parts.{world_of}
use Rattle.kb_tenant_state.specs.declared.parts.Parts.{Parts}
use Rattle.kb_tenant_api.specs.Hosted.{Kept, TenantState, kept_in, kept_of, names_of, nothing}
use Rattle.kb_tenants.specs.Tenants.{restored_tenant, AllAgree}
use Rattle.kb_opening.specs.Opened.{IsInUse}
use Rattle.kb_opening.proofs.Unique.{only_opened}
use Rattle.kb_restart.specs.Restart.{owners_of, AreOnly, AreOpened, AreReopened, IsOfNoLog, IsOfLog, IsReopened, IsStray, have_nothing_refused, tenants_restored}
use Rattle.kb_restart.proofs.Hosting.{zip_at, zip_firsts}

pub item_within : {A : Type 0} (xs : List A) (p : ℕ) → p < length xs → (x : A) × (slice_get xs p ≡ Some x)
item_within [] p lt = absurd (omega (arith, lt))
item_within (x ∷ xs) zero lt = (x, refl)
item_within (x ∷ xs) (suc p) lt = item_within xs p (omega (arith, lt))

module _ (now : Files) (names : List (List ℕ)) (ps : List (Parts SegmentLog)) (many : length ps ≡ length names) where
  pub names_restored : names_of (tenants_restored now names ps) ≡ names
  names_restored =
      map-map (λ (x : TenantState). x.name) (λ (e : List ℕ × Parts SegmentLog). restored_tenant segment_log now e.0 e.1) (zip names ps) ∙ zip_firsts names ps many

  -- what a tenant keeps, by its parts
  kept_at : (t : ℕ) (name : List ℕ) (p : Parts SegmentLog) → slice_get names t ≡ Some name → slice_get ps t ≡ Some p
      → kept_of (tenants_restored now names ps) t ≡ kept_in (world_of segment_log p now) none
  kept_at t name p at here =
      get_or_from_slice_get (map (λ (x : TenantState). x.kept) (tenants_restored now names ps)) t (kept_in (world_of segment_log p now) none) nothing
      (slice_get-map (λ (x : TenantState). x.kept) (tenants_restored now names ps) t
      ∙ ap (option_map (λ (x : TenantState). x.kept))
      (slice_get-map (λ (e : List ℕ × Parts SegmentLog). restored_tenant segment_log now e.0 e.1) (zip names ps) t
      ∙ ap (option_map (λ (e : List ℕ × Parts SegmentLog). restored_tenant segment_log now e.0 e.1)) (zip_at names ps t name p at here)))

  parts_at : (t : ℕ) (name : List ℕ) → slice_get names t ≡ Some name → (p : Parts SegmentLog) × (slice_get ps t ≡ Some p)
  parts_at t name at = let lt = slice_get_within names t name at in item_within ps t (omega (arith, lt, many))

  module _ (files : Files) (numbers : List ℕ) where
    pub are_reopened : AreOpened files numbers names ps now → AreReopened files numbers names (tenants_restored now names ps)
    are_reopened opened = record {
      names_are = names_restored;
      each = λ t name at.
          let p = parts_at t name at in
          subst (λ (k : Kept). IsReopened files numbers name k) (sym (kept_at t name p.0 at p.1)) record { opened = (opened t name p.0 at p.1).opened; groups = refl };
    }

    pub agree_all : AreOpened files numbers names ps now → AllAgree segment_log ps now
    agree_all opened t p here =
        let lt = slice_get_within ps t p here in
        let name = item_within names t (omega (arith, lt, many)) in
        (opened t name.0 p name.1 here).agrees

    pub is_stray : (file : ℕ) → IsOfNoLog files numbers names ps file → IsStray files numbers names (tenants_restored now names ps) file
    is_stray file (inl stray) = inl stray
    is_stray file (inr (inr newer)) = inr (inr record {
      tenant = newer.tenant;
      name = newer.name;
      generation = newer.generation;
      later = newer.later;
      named = newer.named;
      in_use = subst (λ (k : Known). IsInUse files (owners_of files numbers newer.name) newer.generation k) (sym (ap (λ (k : Kept). k.world.known) (kept_at newer.tenant newer.name newer.parts newer.named newer.at))) newer.in_use;
      above = newer.above;
      has = newer.has;
    })
    is_stray file (inr (inl none_has)) = inr (inl record {
      tenant = none_has.tenant;
      name = none_has.name;
      instance = none_has.instance;
      partition = none_has.partition;
      named = none_has.named;
      has = none_has.has;
      unknown = ap (λ (k : Kept). partition_at k.world.known (pos none_has.instance) (pos none_has.partition)) (kept_at none_has.tenant none_has.name none_has.parts none_has.named none_has.at) ∙ none_has.unknown;
    })

    pub is_left : (file : ℕ) → IsStray files numbers names (tenants_restored now names ps) file → IsOfNoLog files numbers names ps file
    is_left file (inl stray) = inl stray
    is_left file (inr (inr later)) =
        let p = parts_at later.tenant later.name later.named in
        inr (inr record {
          tenant = later.tenant;
          name = later.name;
          parts = p.0;
          generation = later.generation;
          later = later.later;
          named = later.named;
          at = p.1;
          in_use = subst (λ (k : Known). IsInUse files (owners_of files numbers later.name) later.generation k) (ap (λ (k : Kept). k.world.known) (kept_at later.tenant later.name p.0 later.named p.1)) later.in_use;
          above = later.above;
          has = later.has;
        })
    is_left file (inr (inl none_has)) =
        let p = parts_at none_has.tenant none_has.name none_has.named in
        inr (inl record {
          tenant = none_has.tenant;
          name = none_has.name;
          parts = p.0;
          instance = none_has.instance;
          partition = none_has.partition;
          named = none_has.named;
          at = p.1;
          has = none_has.has;
          unknown = sym (ap (λ (k : Kept). partition_at k.world.known (pos none_has.instance) (pos none_has.partition)) (kept_at none_has.tenant none_has.name p.0 none_has.named p.1)) ∙ none_has.unknown;
        })

pub only_reopened : (files : Files) (numbers : List ℕ) (names : List (List ℕ)) (ts : List TenantState) → AreReopened files numbers names ts → AreOnly files numbers names ts
only_reopened files numbers names ts reopened t name at =
    only_opened files (owners_of files numbers name) (kept_of ts t).world.known (kept_of ts t).world.logs (reopened.each t name at).opened

pub none_counted : (now : Files) (names : List (List ℕ)) (ps : List (Parts SegmentLog)) → All (λ (p : Parts SegmentLog). p.refusals ≡ 0) ps → have_nothing_refused (tenants_restored now names ps)
none_counted now [] ps all = All-nil (λ (x : TenantState). x.refusals ≡ 0)
none_counted now (n ∷ names) [] all = All-nil (λ (x : TenantState). x.refusals ≡ 0)
none_counted now (n ∷ names) (p ∷ ps) all =
    All-cons (λ (x : TenantState). x.refusals ≡ 0) (restored_tenant segment_log now n p) (tenants_restored now names ps)
    (All-head (λ (p : Parts SegmentLog). p.refusals ≡ 0) p ps all) (none_counted now names ps (All-tail (λ (p : Parts SegmentLog). p.refusals ≡ 0) p ps all))

-- ---- since the files were listed

pub keeps_then : (old mid new : Disk) → Keeps old mid → Keeps mid new → Keeps old new
keeps_then old mid new a b = record { table = b.table ∙ a.table; honest = λ h. a.honest (b.honest h); files = λ h. b.files h ∙ a.files (b.honest h) }

module _ (old first now : Disk) (kept : Keeps old first) (numbers : List ℕ) (same : numbers ≡ keys old.table) (names whole : List (List ℕ)) (named : names ≡ whole) where
  -- what is said by the files and the names, as they were
  moved : (P : Files → List ℕ → List (List ℕ) → Type 0) → first.honest → P first.files numbers names → P old.files (keys old.table) whole
  moved P was p = subst (λ ns. P old.files (keys old.table) ns) named (subst (λ ns. P old.files ns names) same (subst (λ fs. P fs numbers names) (kept.files was) p))

  pub cleared_since : (now.honest → Clears (IsOfLog first.files numbers names) first now) → now.honest → Clears (IsOfLog old.files (keys old.table) whole) old now
  cleared_since clears h =
      let c = clears h in
      moved (λ fs ns us. Clears (IsOfLog fs ns us) old now) (c.honest h) (clears_kept (IsOfLog first.files numbers names) old first now kept c)

  module _ (ps : List (Parts SegmentLog)) (many : length ps ≡ length names) (ts : List TenantState) (hosts : ts ≡ tenants_restored now.files names ps) (was : first.honest) where
    pub reopened_since : AreOpened first.files numbers names ps now.files → AreReopened old.files (keys old.table) whole ts
    reopened_since opened = moved (λ fs ns us. AreReopened fs ns us ts) was (subst (λ (xs : List TenantState). AreReopened first.files numbers names xs) (sym hosts) (are_reopened now.files names ps many first.files numbers opened))

    pub strays_since : (file : ℕ) → IsOfNoLog first.files numbers names ps file → IsStray old.files (keys old.table) whole ts file
    strays_since file is = moved (λ fs ns us. IsStray fs ns us ts file) was (subst (λ (xs : List TenantState). IsStray first.files numbers names xs file) (sym hosts) (is_stray now.files names ps many first.files numbers file is))

    moved_back : (P : Files → List ℕ → List (List ℕ) → Type 0) → P old.files (keys old.table) whole → P first.files numbers names
    moved_back P p = subst (λ fs. P fs numbers names) (sym (kept.files was)) (subst (λ ns. P old.files ns names) (sym same) (subst (λ ns. P old.files (keys old.table) ns) (sym named) p))

    pub left_since : (file : ℕ) → IsStray old.files (keys old.table) whole ts file → IsOfNoLog first.files numbers names ps file
    left_since file is = is_left now.files names ps many first.files numbers file (subst (λ (xs : List TenantState). IsStray first.files numbers names xs file) hosts (moved_back (λ fs ns us. IsStray fs ns us ts file) is))
