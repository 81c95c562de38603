-- A directory that was read: its files are those of logs, and those of none.
use Rattle.std.proofs.Common.{◌≡◌, ◌∙◌, inl, inr, ◌<◌, ℕ, zero, suc, Bool, true, false, not, cond, List, [], ◌∷◌, Option, Some, None, sym, ap, subst, arith, length, get_or}
use Rattle.std.specs.Prelude.{◌&&◌, nat_eq, pos, slice_get, string_bytes, map, option_map, IsPermutation}
use Rattle.std.specs.List.{All, Contains, IsDistinct, filter, list_any}
use Rattle.std.specs.Str.{bytes_eq}
use Rattle.std.proofs.lemmas.Bool.{and_parts, false≢true}
use Rattle.std.proofs.lemmas.Option.{slice_get-get_or, get_or_from_slice_get, slice_get_within, slice_get-map, same_Some}
use Rattle.std.proofs.lemmas.List.Elements.{All-contains, All-contains_itself, All-filter, filter_passes, Contains-append_right}
use Rattle.std.proofs.lemmas.List.Folds.{list_any_at}
use Rattle.std.proofs.lemmas.List.Sorted.{All-permutation, IsPermutation-sym, Contains-permutation}
use Rattle.kb_store.specs.Disk.{Disk, Files, IsThere, Keeps}
use Rattle.kb_batch.specs.Batch.{is_natural}
use Rattle.kb_segment.specs.Header.{Header, header_in}
use Rattle.kb_segment_log.specs.SegmentLog.{segment_log, bytes_at, Clears}
use Rattle.kb_segment_log.specs.declared.log.SegmentLog.{SegmentLog}
use Rattle.kb_segment_log.proofs.Opened.{clears_kept, distinct_moved}
use Rattle.kb_tenant_state.specs.declared.parts.Parts.{Parts}
use Rattle.kb_tenants.specs.Tenants.{AllAreSound}
use Rattle.kb_topics.specs.Catalog.{known}
use Rattle.kb_opening.specs.Opened.{Owners, IsInUse}
use Rattle.kb_opening.specs.Owners.{is_of_catalog, is_of_partition, is_of_one, passes, says, strays_of}
use Rattle.kb_opening.specs.Directory.{all_files, files_at, owned_in, IsDirectory}
use Rattle.kb_opening.specs.Tenant.{owners_in, generation_of, tenant_in, AreListed, AreOwnNamed, IsTenantOf}
use Rattle.kb_opening.specs.declared.directory.Directory.{Directory}
use Rattle.kb_opening.specs.declared.owner.Owner.{Owner}
use Rattle.kb_opening.specs.declared.owner.Owner.TheVariants.{Catalog, Partition}
use Rattle.kb_opening.proofs.Openings.{clears_wider}
use Rattle.kb_opening.proofs.Unique.{one_generation}
use Rattle.kb_restart.specs.Restart.{owners_of, names_in, AreOpened, AreOwnedNamed, AreRestored, IsOfNoLog, IsOfFirst, IsOfLog}
use Rattle.kb_opening.proofs.Apart.{listed_at, tenants_apart}

-- ---- what a filter keeps

pub in_filter : (p : ℕ → Bool) (xs : List ℕ) (x : ℕ) → Contains xs x → p x ≡ true → Contains (filter p xs) x
in_filter p [] x has q = absurd (omega (arith, has.1))
in_filter p (y ∷ ys) x (zero, lt, is) q = subst (λ b. Contains (cond b (y ∷ filter p ys) (filter p ys)) x) (sym (ap p is ∙ q)) (0, omega arith, is)
in_filter p (y ∷ ys) x (suc k, lt, is) q =
    let rest = in_filter p ys x (k, omega (arith, lt), is) q in
    elim (p y) as (λ b. Contains (cond b (y ∷ filter p ys) (filter p ys)) x) [
      | true ↦ Contains-append_right (y ∷ []) (filter p ys) x rest
      | false ↦ rest
    ]

pub of_filter : (p : ℕ → Bool) (xs : List ℕ) (x : ℕ) → Contains (filter p xs) x → Contains xs x × (p x ≡ true)
of_filter p xs x has =
    (All-contains (Contains xs) (filter p xs) x (All-filter p (Contains xs) xs (All-contains_itself xs)) has, All-contains (λ y. p y ≡ true) (filter p xs) x (filter_passes p xs) has)

-- ---- a header of a named tenant's log is of one of the names

pub both_true : (a b : Bool) → a ≡ true → b ≡ true → (a && b) ≡ true
both_true a b p q = ap (λ x. x && b) p ∙ q

named_one : (names : List (List ℕ)) (t : ℕ) (name : List ℕ) (h : Header) → slice_get names t ≡ Some name → bytes_eq h.tenant name ≡ true → list_any (bytes_eq h.tenant) names ≡ true
named_one names t name h at same =
    list_any_at (bytes_eq h.tenant) names t [] (slice_get_within names t name at) (ap (bytes_eq h.tenant) (get_or_from_slice_get names t name [] at) ∙ same)

pub catalog_one : (names : List (List ℕ)) (t g : ℕ) (name : List ℕ) → slice_get names t ≡ Some name → (h : Header) → is_of_catalog name g h ≡ true → is_of_one names h ≡ true
catalog_one names t g name at h is =
    let last = and_parts (bytes_eq h.tenant name && is_natural 1 h.kind) (is_natural g h.generation) is in
    named_one names t name h at (and_parts (bytes_eq h.tenant name) (is_natural 1 h.kind) last.0).0

pub partition_one : (names : List (List ℕ)) (t i p : ℕ) (name : List ℕ) → slice_get names t ≡ Some name → (h : Header) → is_of_partition name i p h ≡ true → is_of_one names h ≡ true
partition_one names t i p name at h is =
    let four = and_parts (((bytes_eq h.tenant name && is_natural 0 h.kind) && is_natural i h.instance) && is_natural p h.partition) (is_natural 0 h.generation) is in
    let three = and_parts ((bytes_eq h.tenant name && is_natural 0 h.kind) && is_natural i h.instance) (is_natural p h.partition) four.0 in
    let two = and_parts (bytes_eq h.tenant name && is_natural 0 h.kind) (is_natural i h.instance) three.0 in
    named_one names t name h at (and_parts (bytes_eq h.tenant name) (is_natural 0 h.kind) two.0).0

pub passes_weaker : (test other : Header → Bool) → ((h : Header) → test h ≡ true → other h ≡ true) → (found : Option Header) → passes test found ≡ true → passes other found ≡ true
passes_weaker test other weaker None is = is
passes_weaker test other weaker (Some h) is = weaker h is

-- ---- the files that were read

module _ (old : Disk) (numbers : List ℕ) (next : ℕ) (there : All (λ n. IsThere old n) numbers) (given_out : All (λ n. n < next) numbers) (once : IsDistinct nat_eq numbers)
    (d : Directory) (all : IsPermutation numbers (all_files d)) where
  pub read_once : IsDistinct nat_eq (all_files d)
  read_once = distinct_moved numbers (all_files d) all once

  pub read_listed : (mid : Disk) (next' : ℕ) → Keeps old mid → next' ≡ next → AreListed d mid next'
  read_listed mid next' kept same = record {
    there = All-permutation (λ n. IsThere mid n) numbers (all_files d) all (subst (λ t. All (λ n. IsThere (record mid { table = t }) n) numbers) (sym kept.table) there);
    given_out = All-permutation (λ n. n < next') numbers (all_files d) all (subst (λ (m : ℕ). All (λ n. n < m) numbers) (sym same) given_out);
    once = read_once;
  }

  module _ (names : List (List ℕ)) (dir : IsDirectory old.files names numbers d) where
    pub listed : (file : ℕ) → Contains (all_files d) file → Contains numbers file
    listed file is = Contains-permutation (all_files d) numbers file (IsPermutation-sym numbers (all_files d) all) is

    not_stray : (test : Header → Bool) → ((h : Header) → test h ≡ true → is_of_one names h ≡ true) → (file : ℕ) → says old.files test file ≡ true → Contains (strays_of old.files names numbers) file → ⊥
    not_stray test weaker file is stray =
        let one = passes_weaker test (is_of_one names) weaker (header_in (bytes_at old.files file)) is in
        false≢true (sym (ap not one) ∙ (of_filter (λ n. not (says old.files (is_of_one names) n)) numbers file stray).1)

    -- a named tenant's file is of a log
    of_owner : (o : Owner) (file : ℕ) → tenant_in o < length names → Contains (files_at o d) file → IsOfLog old.files numbers names file
    of_owner (Catalog t g) file lt has =
        let name = get_or names t [] in
        let at = slice_get-get_or names t [] lt in
        let own = of_filter (says old.files (is_of_catalog name g)) numbers file (subst (λ ns. Contains ns file) (dir.catalogs t g name at) has) in
        record { listed = own.0; no_stray = not_stray (is_of_catalog name g) (catalog_one names t g name at) file own.1 }
    of_owner (Partition t i p) file lt has =
        let name = get_or names t [] in
        let at = slice_get-get_or names t [] lt in
        let own = of_filter (says old.files (is_of_partition name i p)) numbers file (subst (λ ns. Contains ns file) (dir.partitions t i p name at) has) in
        record { listed = own.0; no_stray = not_stray (is_of_partition name i p) (partition_one names t i p name at) file own.1 }

    pub of_first : (file : ℕ) → IsOfFirst d (length names) file → IsOfLog old.files numbers names file
    of_first file f = let lt = f.first in let mine = f.has.mine in of_owner f.has.owner file (omega (arith, lt, mine)) f.has.has

    pub cleared : (mid now : Disk) (count : ℕ) → Keeps old mid → count ≡ length names → Clears (IsOfFirst d count) mid now → Clears (IsOfLog old.files numbers names) old now
    cleared mid now count kept many c = clears_kept (IsOfLog old.files numbers names) old mid now kept (clears_wider mid now of_first (subst (λ n. Clears (IsOfFirst d n) mid now) many c))

    pub same_owners : (t : ℕ) (name : List ℕ) → slice_get names t ≡ Some name → owners_in d t ≡ owners_of old.files numbers name
    same_owners t name at = λ k. record { catalog = λ g. dir.catalogs t g name at k; partition = λ i p. dir.partitions t i p name at k }

  -- ---- the tenants that were opened from it

  module _ (mid : Disk) (ps : List (Parts SegmentLog)) (now : Disk) (last : ℕ) (left : Directory) (kept : Keeps old mid) (restored : AreRestored mid d ps now last left) where
    pub are_sound : AllAreSound segment_log ps now.table last
    are_sound = record {
      each = λ t p at. (restored.each t p at).sound;
      apart = λ t u p q at here ne file own theirs. tenants_apart d read_once t u file ((restored.each t p at).owned file own) ((restored.each u q here).owned file theirs) ne;
    }

    pub none_refused : All (λ (p : Parts SegmentLog). p.refusals ≡ 0) ps
    none_refused = λ k p lt. (restored.each k (get_or ps k p) (slice_get-get_or ps k p lt)).refusals

    module _ (names : List (List ℕ)) (honest : now.honest) (dir : IsDirectory old.files names numbers d) where
      was : mid.honest
      was = restored.clears.honest honest

      -- at the place of a name stand the parts of that name
      name_is : names_in ps ≡ names → (t : ℕ) (name : List ℕ) (p : Parts SegmentLog) → slice_get names t ≡ Some name → slice_get ps t ≡ Some p → name ≡ string_bytes p.tenant
      name_is same t name p at here =
          let named : Parts SegmentLog → List ℕ = λ p. string_bytes p.tenant in
          same_Some name (named p) (sym at ∙ ap (λ ns. slice_get ns t) (sym same) ∙ slice_get-map named ps t ∙ ap (option_map named) here)

      pub are_opened : names_in ps ≡ names → ((size : ℕ) → AreOwnedNamed names size old.files d) → AreOpened old.files numbers names ps now.files
      are_opened same headed t name p at here =
          let its : AreOwnNamed name p.segment_bytes t old.files d = headed p.segment_bytes t name at in
          let own : AreOwnNamed (string_bytes p.tenant) p.segment_bytes t old.files d = subst (λ (n : List ℕ). AreOwnNamed n p.segment_bytes t old.files d) (name_is same t name p at here) its in
          let was_own : AreOwnNamed (string_bytes p.tenant) p.segment_bytes t mid.files d = subst (λ (fs : Files). AreOwnNamed (string_bytes p.tenant) p.segment_bytes t fs d) (sym (kept.files was)) own in
          subst (λ (fs : Files). IsTenantOf fs (owners_of old.files numbers name) p now.files) (kept.files was)
          (subst (λ (of : Owners). IsTenantOf mid.files of p now.files) (same_owners names dir t name at) ((restored.each t p here).opened honest was_own))

      pub are_in_use : names_in ps ≡ names → ((size : ℕ) → AreOwnedNamed names size old.files d) → (t : ℕ) (name : List ℕ) (p : Parts SegmentLog) → slice_get names t ≡ Some name → slice_get ps t ≡ Some p
          → IsInUse old.files (owners_of old.files numbers name) (generation_of p) (known p.catalog)
      are_in_use same headed t name p at here =
          let its : AreOwnNamed name p.segment_bytes t old.files d = headed p.segment_bytes t name at in
          let own : AreOwnNamed (string_bytes p.tenant) p.segment_bytes t old.files d = subst (λ (n : List ℕ). AreOwnNamed n p.segment_bytes t old.files d) (name_is same t name p at here) its in
          let was_own : AreOwnNamed (string_bytes p.tenant) p.segment_bytes t mid.files d = subst (λ (fs : Files). AreOwnNamed (string_bytes p.tenant) p.segment_bytes t fs d) (sym (kept.files was)) own in
          subst (λ (fs : Files). IsInUse fs (owners_of old.files numbers name) (generation_of p) (known p.catalog)) (kept.files was)
          (subst (λ (of : Owners). IsInUse mid.files of (generation_of p) (known p.catalog)) (same_owners names dir t name at) ((restored.each t p here).in_use honest was_own))

      -- what is of no log is left
      pub left_all : names_in ps ≡ names → ((size : ℕ) → AreOwnedNamed names size old.files d) → (file : ℕ) → IsOfNoLog old.files numbers names ps file → Contains (all_files left) file
      left_all same headed file (inl stray) = Contains-append_right (owned_in left.owned.entries) left.strays.items file (subst (λ ns. Contains ns file) (sym (restored.strays ∙ dir.strays)) stray)
      left_all same headed file (inr (inl none)) =
          listed_at (Partition none.tenant none.instance none.partition) left file
          (subst (λ ns. Contains ns file) (sym ((restored.each none.tenant none.parts none.at).unknown none.instance none.partition none.unknown ∙ dir.partitions none.tenant none.instance none.partition none.name none.named)) none.has)
      left_all same headed file (inr (inr later)) =
          let p = later.parts in
          let used = are_in_use same headed later.tenant later.name p later.named later.at in
          let is : later.generation ≡ generation_of p = one_generation old.files (owners_of old.files numbers later.name) (generation_of p) later.generation (known p.catalog) (known p.catalog) used later.in_use in
          let above = later.above in
          listed_at (Catalog later.tenant later.later) left file
          (subst (λ ns. Contains ns file) (sym ((restored.each later.tenant p later.at).newer later.later (omega (arith, is, above)) ∙ dir.catalogs later.tenant later.later later.name later.named)) later.has)
