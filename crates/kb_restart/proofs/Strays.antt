-- A file that nobody took out is of no log.
use Rattle.std.proofs.Common.{◌≡◌, ◌∙◌, ◌⊎◌, inl, inr, ⊎_elim, ◌<◌, ℕ, zero, suc, true, false, not, List, [], ◌∷◌, Option, Some, None, Ok, Err, refl, sym, ap, subst, arith, length, take}
use Rattle.std.specs.Prelude.{ℤ, pos, negsuc, ◌&&◌, ◌||◌, slice_get, IsSome}
use Rattle.std.specs.List.{Contains, list_any}
use Rattle.std.specs.Str.{bytes_eq}
use Rattle.std.proofs.lemmas.Bool.{and_parts, cases_lt, or_cases, eq-eqb, false≢true}
use Rattle.std.proofs.lemmas.Option.{none-some, cond_some, slice_get_within}
use Rattle.kb_store.specs.Disk.{Disk, Files}
use Rattle.kb_batch.specs.Batch.{is_natural, natural}
use Rattle.kb_segment.specs.Header.{Header, is_legal, is_partition, is_meta, is_tenant, is_not_negative, is_readable, is_sealed, said_size, header_with, header_in, header_of, said_read}
use Rattle.kb_segment_log.specs.SegmentLog.{bytes_at}
use Rattle.kb_segment_log.specs.declared.log.SegmentLog.{SegmentLog}
use Rattle.kb_topics.specs.Catalog.{known}
use Rattle.kb_topics.specs.Known.{partition_at}
use Rattle.kb_tenant_state.specs.declared.parts.Parts.{Parts}
use Rattle.kb_opening.specs.Owners.{is_of_catalog, is_of_partition, is_of_one, passes, says}
use Rattle.kb_opening.specs.Directory.{all_files, files_at, IsDirectory}
use Rattle.kb_opening.specs.Opened.{IsInUse}
use Rattle.kb_opening.specs.Tenant.{generation_of, tenant_in}
use Rattle.kb_opening.specs.declared.directory.Directory.{Directory}
use Rattle.kb_opening.specs.declared.owner.Owner.{Owner}
use Rattle.kb_opening.specs.declared.owner.Owner.TheVariants.{Catalog, Partition}
use Rattle.kb_restart.specs.Restart.{owners_of, AreRestored, IsOfNoLog}
use Rattle.kb_restart.proofs.Read.{in_filter, both_true}
use Rattle.kb_restart.proofs.Reopened.{item_within}

-- ---- a readable header is of a partition or of a catalog

pub legal_in : (s : List ℕ) (h : Header) → header_in s ≡ Some h → is_legal h ≡ true
unfolding header_in
legal_in s h =
    let front = take 106 s in
    elim (said_read front) as (λ r. header_of front r ≡ Some h → is_legal h ≡ true) [
      | Ok x ↦ λ e.
          let said = cond_some (is_readable x.0.0 x.0.1 front) (header_with x.0.0 x.0.1) h e in
          let legal = (and_parts (is_natural 1262637895 x.0.0.magic) (is_legal (header_with x.0.0 x.0.1)) (and_parts _ (is_sealed (said_size x.0.0) front) said.0).0).1 in
          subst (λ (k : Header). is_legal k ≡ true) said.1 legal
      | Err fault ↦ λ e. absurd (none-some h e)
    ]

pub one_of_both : (h : Header) → is_legal h ≡ true → (is_partition h.kind h.instance h.partition h.generation ≡ true) ⊎ (is_meta h.kind h.instance h.partition h.generation ≡ true)
one_of_both h legal = or_cases _ _ (and_parts (is_tenant h.tenant && is_not_negative h.base) _ legal).1

pub own_number : (z : ℤ) → is_not_negative z ≡ true → is_natural (natural z) z ≡ true
own_number (pos m) e = eq-eqb m m refl
own_number (negsuc m) e = absurd (false≢true e)

-- ---- whose it is

named_at : (names : List (List ℕ)) (q : List ℕ) → list_any (bytes_eq q) names ≡ true → (t : ℕ) × (name : List ℕ) × (slice_get names t ≡ Some name) × (bytes_eq q name ≡ true)
named_at [] q is = absurd (false≢true is)
named_at (n ∷ ns) q is = elim (bytes_eq q n) as (λ b. bytes_eq q n ≡ b → (b || list_any (bytes_eq q) ns) ≡ true → (t : ℕ) × (name : List ℕ) × (slice_get (n ∷ ns) t ≡ Some name) × (bytes_eq q name ≡ true)) [
  | true ↦ λ e rest. (0, n, refl, e)
  | false ↦ λ e rest. let w = named_at ns q rest in (suc w.0, w.1, w.2, w.3)
] refl is

module _ (files : Files) (names : List (List ℕ)) (numbers : List ℕ) (d : Directory) (dir : IsDirectory files names numbers d) where
  -- a file of a log stands with its owner
  abbrev Stands : ℕ → Type 0
  Stands file = (o : Owner) × (tenant_in o < length names) × Contains (files_at o d) file

  stands : (file : ℕ) (h : Header) → header_in (bytes_at files file) ≡ Some h → Contains numbers file → is_of_one names h ≡ true → Stands file
  stands file h read among one =
      let n = named_at names h.tenant one in
      let lt = slice_get_within names n.0 n.1 n.2 in
      ⊎_elim
      (λ (is : is_partition h.kind h.instance h.partition h.generation ≡ true).
      let three = and_parts ((is_natural 0 h.kind && is_not_negative h.instance) && is_not_negative h.partition) (is_natural 0 h.generation) is in
      let two = and_parts (is_natural 0 h.kind && is_not_negative h.instance) (is_not_negative h.partition) three.0 in
      let kind = and_parts (is_natural 0 h.kind) (is_not_negative h.instance) two.0 in
      let i = natural h.instance in
      let p = natural h.partition in
      let says_so : is_of_partition n.1 i p h ≡ true =
      both_true _ _ (both_true _ _ (both_true _ _ (both_true _ _ n.3 kind.0) (own_number h.instance kind.1)) (own_number h.partition two.1)) three.1 in
      (Partition n.0 i p, lt, subst (λ ns. Contains ns file) (sym (dir.partitions n.0 i p n.1 n.2)) (in_filter (says files (is_of_partition n.1 i p)) numbers file among (ap (passes (is_of_partition n.1 i p)) read ∙ says_so))))
      (λ (is : is_meta h.kind h.instance h.partition h.generation ≡ true).
      let three = and_parts ((is_natural 1 h.kind && is_natural 0 h.instance) && is_natural 0 h.partition) (is_not_negative h.generation) is in
      let two = and_parts (is_natural 1 h.kind && is_natural 0 h.instance) (is_natural 0 h.partition) three.0 in
      let kind = and_parts (is_natural 1 h.kind) (is_natural 0 h.instance) two.0 in
      let g = natural h.generation in
      let says_so : is_of_catalog n.1 g h ≡ true = both_true _ _ (both_true _ _ n.3 kind.0) (own_number h.generation three.1) in
      (Catalog n.0 g, lt, subst (λ ns. Contains ns file) (sym (dir.catalogs n.0 g n.1 n.2)) (in_filter (says files (is_of_catalog n.1 g)) numbers file among (ap (passes (is_of_catalog n.1 g)) read ∙ says_so))))
      (one_of_both h (legal_in (bytes_at files file) h read))

  module _ (mid now : Disk) (next : ℕ) (ps : List (Parts SegmentLog)) (left : Directory) (many : length ps ≡ length names) (restored : AreRestored mid d ps now next left)
      (listed : (file : ℕ) → Contains (all_files d) file → Contains numbers file)
      (used : (t : ℕ) (name : List ℕ) (p : Parts SegmentLog) → slice_get names t ≡ Some name → slice_get ps t ≡ Some p → IsInUse files (owners_of files numbers name) (generation_of p) (known p.catalog)) where
    -- it was not taken out, so its topics have no such partition, or its catalog is of an earlier generation
    left_of : (file : ℕ) → Contains (all_files left) file → (o : Owner) → tenant_in o < length names → Contains (files_at o d) file → IsOfNoLog files numbers names ps file
    left_of file is (Catalog t g) lt has =
        let p = item_within ps t (omega (arith, lt, many)) in
        let name = item_within names t lt in
        elim (cases_lt (generation_of p.0) g) [
          | inl above ↦ inr (inr record {
            tenant = t;
            name = name.0;
            parts = p.0;
            generation = generation_of p.0;
            later = g;
            named = name.1;
            at = p.1;
            in_use = used t name.0 p.0 name.1 p.1;
            above = above;
            has = subst (λ ns. Contains ns file) (dir.catalogs t g name.0 name.1) has;
          })
          | inr no_more ↦ absurd ((restored.each t p.0 p.1).gone (Catalog t g) (refl, omega (arith, no_more)) file has is)
        ]
    left_of file is (Partition t i n) lt has =
        let p = item_within ps t (omega (arith, lt, many)) in
        let name = item_within names t lt in
        elim (partition_at (known p.0.catalog) (pos i) (pos n)) as (λ o. partition_at (known p.0.catalog) (pos i) (pos n) ≡ o → IsOfNoLog files numbers names ps file) [
          | None ↦ λ e. inr (inl record {
            tenant = t;
            name = name.0;
            parts = p.0;
            instance = i;
            partition = n;
            named = name.1;
            at = p.1;
            has = subst (λ ns. Contains ns file) (dir.partitions t i n name.0 name.1) has;
            unknown = e;
          })
          | Some x ↦ λ e. absurd ((restored.each t p.0 p.1).gone (Partition t i n) (refl, subst (λ o. IsSome o) (sym e) refl) file has is)
        ] refl

    by_header : (file : ℕ) → Contains (all_files left) file → Contains numbers file → (found : Option Header) → header_in (bytes_at files file) ≡ found → IsOfNoLog files numbers names ps file
    by_header file is among None e = inl (in_filter (λ n. not (says files (is_of_one names) n)) numbers file among (ap (λ o. not (passes (is_of_one names) o)) e))
    by_header file is among (Some h) e = elim (is_of_one names h) as (λ b. is_of_one names h ≡ b → IsOfNoLog files numbers names ps file) [
      | true ↦ λ one. let s = stands file h e among one in left_of file is s.0 s.1 s.2
      | false ↦ λ none. inl (in_filter (λ n. not (says files (is_of_one names) n)) numbers file among (ap (λ o. not (passes (is_of_one names) o)) e ∙ ap not none))
    ] refl

    pub only_left : (file : ℕ) → Contains (all_files left) file → IsOfNoLog files numbers names ps file
    only_left file is = by_header file is (listed file (restored.fewer file is)) (header_in (bytes_at files file)) refl
