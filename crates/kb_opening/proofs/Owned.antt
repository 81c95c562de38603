-- What the owners of the files say of each log's.
use Rattle.std.proofs.Common.{◌≡◌, ◌∙◌, ℕ, ◌+◌, ◌<◌, ◌^◌, ◌==◌, Bool, true, false, not, cond, List, [], ◌∷◌, ◌++◌, length, take, get_or, Option, Some, None, Ok, Err, ◌⊎◌, inl, inr, refl, sym, ap, subst, arith, rules, w64, FitsSigned}
use Rattle.std.specs.Prelude.{Result, ℤ, pos, negsuc, ◌&&◌, option_map, is_some, is_none, slice_get, if◌then◌else◌}
use Rattle.std.specs.List.{filter, list_any}
use Rattle.std.specs.Str.{bytes_eq}
use Rattle.std.proofs.lemmas.Bool.{and_parts, or_cases, eqb-true, false_from_ne_true, false≢true}
use Rattle.std.proofs.lemmas.Bool.Decides.{same_from_decides, Decides-like, Decides-and, Decides-eqb}
use Rattle.std.proofs.lemmas.Option.{none-some, cond_some}
use Rattle.std.proofs.lemmas.List.Elements.{filter_more, filter_agree}
use Rattle.kb_store.specs.Disk.{Files}
use Rattle.kb_batch.specs.Batch.{is_natural, natural}
use Rattle.kb_wire.specs.Codec.{◌>>=◌, int, int64}
use Rattle.kb_wire.specs.Laws.{int64_lawful}
use Rattle.kb_wire.specs.declared.fault.WireFault.{WireFault}
use Rattle.kb_wire.specs.declared.fault.WireFault.TheVariants.{Bad}
use Rattle.kb_segment.specs.Header.{fields, generation_read}
use Rattle.kb_segment.specs.Header.{Header, is_legal, is_partition, is_meta, is_tenant, is_not_negative, is_readable, is_sealed, said_size, header_with, header_in, header_of, said_read}
use Rattle.kb_segment_log.specs.SegmentLog.{bytes_at}
use Rattle.kb_opening.specs.Owners.{is_of_catalog, is_of_partition, is_of_one, passes, place_among, owner_by, same_owner, is_owner}
use Rattle.kb_opening.specs.Directory.{files_at, only, Assigns, IsDirectory}
use Rattle.kb_opening.specs.declared.directory.Directory.{Directory}
use Rattle.kb_opening.specs.declared.owner.Owner.{Owner}
use Rattle.kb_opening.specs.declared.owner.Owner.TheVariants.{Catalog, Partition}
use Rattle.kb_opening.proofs.Keys.{same_owner-decides}
use Rattle.kb_opening.proofs.Named.{Rises, is_place, at_place, has_place}

-- ---- owners that are the same

two_catalogs : (i g t h : ℕ) → same_owner (Catalog i g) (Catalog t h) ≡ (i == t && g == h)
two_catalogs i g t h =
    same_from_decides _ _ (same_owner-decides (Catalog i g) (Catalog t h))
    (Decides-like {P = (i ≡ t) × (g ≡ h)} (i == t && g == h) (λ e. λ k. Catalog (e.0 k) (e.1 k)) (λ e. (cc, cc))
    (Decides-and _ _ (Decides-eqb i t) (Decides-eqb g h)))

two_partitions : (i a b t c d : ℕ) → same_owner (Partition i a b) (Partition t c d) ≡ (i == t && (a == c && b == d))
two_partitions i a b t c d =
    same_from_decides _ _ (same_owner-decides (Partition i a b) (Partition t c d))
    (Decides-like {P = (i ≡ t) × ((a ≡ c) × (b ≡ d))} (i == t && (a == c && b == d)) (λ h. λ k. Partition (h.0 k) (h.1.0 k) (h.1.1 k)) (λ e. (cc, (cc, cc)))
    (Decides-and _ _ (Decides-eqb i t) (Decides-and _ _ (Decides-eqb a c) (Decides-eqb b d))))

no_catalog : (i a b t g : ℕ) → same_owner (Partition i a b) (Catalog t g) ≡ false
no_catalog i a b t g = false_from_ne_true _ (λ e. partition_apart i a b t g ((same_owner-decides (Partition i a b) (Catalog t g)).0 e))
  where
    partition_apart : (i a b t g : ℕ) → Partition i a b ≡ Catalog t g → ⊥
    partition_apart i a b t g e = absurd (cc)

no_partition : (i g t c d : ℕ) → same_owner (Catalog i g) (Partition t c d) ≡ false
no_partition i g t c d = false_from_ne_true _ (λ e. catalog_apart i g t c d ((same_owner-decides (Catalog i g) (Partition t c d)).0 e))
  where
    catalog_apart : (i g t c d : ℕ) → Catalog i g ≡ Partition t c d → ⊥
    catalog_apart i g t c d e = absurd (cc)

-- ---- by plain tests

-- an owner whose place, kind and numbers were told
abbrev pub told : Bool → ℕ → ℕ → ℕ → Option ℕ → Option Owner
told k x y z p = option_map (λ i. if k then Partition i x y else Catalog i z) p

no_test : (a : Bool) → false ≡ (a && false)
no_test true = refl
no_test false = refl

and_true : (a : Bool) → a ≡ (a && true)
and_true true = refl
and_true false = refl

four_tests : (b u v : Bool) → (b && (u && v)) ≡ ((((b && true) && u) && v) && true)
four_tests false u v = refl
four_tests true false v = refl
four_tests true true false = refl
four_tests true true true = refl

catalog_test : (k m n b : Bool) (x y z t g : ℕ) (p : Option ℕ) → is_place t p ≡ b → (k ≡ true → m ≡ false) → (k ≡ false → m ≡ true) → (k ≡ false → (z == g) ≡ n)
    → is_owner (Catalog t g) (told k x y z p) ≡ ((b && m) && n)
catalog_test k m n b x y z t g None at other this generation = ap (λ c. (c && m) && n) at
catalog_test true m n b x y z t g (Some i) at other this generation =
    no_catalog i x y t g ∙ ap (λ c. c && n) (no_test b) ∙ ap (λ c. (b && c) && n) (sym (other refl))
catalog_test false m n b x y z t g (Some i) at other this generation =
    two_catalogs i z t g ∙ ap (λ q. q && z == g) at ∙ ap (λ q. b && q) (generation refl) ∙ ap (λ q. q && n) (and_true b) ∙ ap (λ c. (b && c) && n) (sym (this refl))

partition_test : (k g u v b : Bool) (x y z t c d : ℕ) (p : Option ℕ) → is_place t p ≡ b → (k ≡ true → (x == c) ≡ u) → (k ≡ true → (y == d) ≡ v) → (k ≡ true → g ≡ true)
    → is_owner (Partition t c d) (told k x y z p) ≡ ((((b && k) && u) && v) && g)
partition_test k g u v b x y z t c d None at instance number none = ap (λ q. (((q && k) && u) && v) && g) at
partition_test false g u v b x y z t c d (Some i) at instance number none = no_partition i z t c d ∙ ap (λ q. ((q && u) && v) && g) (no_test b)
partition_test true g u v b x y z t c d (Some i) at instance number none =
    two_partitions i x y t c d
    ∙ ap (λ q. q && (x == c && y == d)) at
    ∙ ap (λ q. b && (q && y == d)) (instance refl)
    ∙ ap (λ q. b && (u && q)) (number refl)
    ∙ four_tests b u v
    ∙ ap (λ q. (((b && true) && u) && v) && q) (sym (none refl))

stray_test : (k l : Bool) (x y z : ℕ) (p : Option ℕ) → is_some p ≡ l → is_none (told k x y z p) ≡ not l
stray_test k l x y z None at = ap not at
stray_test k l x y z (Some i) at = ap not at

-- ---- what a legal header says

kinds_differ : (z : ℤ) → is_natural 0 z ≡ true → is_natural 1 z ≡ false
kinds_differ (pos m) e = ap (λ k. k == 1) (eqb-true m 0 e)
kinds_differ (negsuc m) e = refl

natural_test : (z : ℤ) (n : ℕ) → is_not_negative z ≡ true → (natural z == n) ≡ is_natural n z
natural_test (pos m) n e = refl
natural_test (negsuc m) n e = absurd (false≢true e)

one_of_both : (h : Header) → is_legal h ≡ true → (is_partition h.kind h.instance h.partition h.generation ≡ true) ⊎ (is_meta h.kind h.instance h.partition h.generation ≡ true)
one_of_both h legal = or_cases _ _ (and_parts (is_tenant h.tenant && is_not_negative h.base) _ legal).1

first_of_four : (a b c d : Bool) → (((a && b) && c) && d) ≡ true → a ≡ true
first_of_four a b c d e = (and_parts a b (and_parts (a && b) c (and_parts ((a && b) && c) d e).0).0).0

other_kind : (h : Header) → is_legal h ≡ true → is_natural 0 h.kind ≡ false → is_natural 1 h.kind ≡ true
other_kind h legal none = elim (one_of_both h legal) [
  | inl e ↦ absurd (false≢true (sym none ∙ first_of_four (is_natural 0 h.kind) _ _ _ e))
  | inr e ↦ first_of_four (is_natural 1 h.kind) _ _ _ e
]

numbers_told : (h : Header) → is_legal h ≡ true → is_natural 0 h.kind ≡ true → (is_not_negative h.instance ≡ true) × (is_not_negative h.partition ≡ true)
numbers_told h legal zero_kind = elim (one_of_both h legal) [
  | inl e ↦
      let three = and_parts ((is_natural 0 h.kind && is_not_negative h.instance) && is_not_negative h.partition) _ e in
      let two = and_parts (is_natural 0 h.kind && is_not_negative h.instance) (is_not_negative h.partition) three.0 in
      ((and_parts (is_natural 0 h.kind) (is_not_negative h.instance) two.0).1, two.1)
  | inr e ↦ absurd (false≢true (sym (kinds_differ h.kind zero_kind) ∙ first_of_four (is_natural 1 h.kind) _ _ _ e))
]

pub generation_told : (h : Header) → is_legal h ≡ true → is_natural 0 h.kind ≡ false → is_not_negative h.generation ≡ true
generation_told h legal other = elim (one_of_both h legal) [
  | inl e ↦ absurd (false≢true (sym other ∙ first_of_four (is_natural 0 h.kind) _ _ _ e))
  | inr e ↦ (and_parts ((is_natural 1 h.kind && is_natural 0 h.instance) && is_natural 0 h.partition) _ e).1
]

no_generation : (h : Header) → is_legal h ≡ true → is_natural 0 h.kind ≡ true → is_natural 0 h.generation ≡ true
no_generation h legal zero_kind = elim (one_of_both h legal) [
  | inl e ↦ (and_parts ((is_natural 0 h.kind && is_not_negative h.instance) && is_not_negative h.partition) _ e).1
  | inr e ↦ absurd (false≢true (sym (kinds_differ h.kind zero_kind) ∙ first_of_four (is_natural 1 h.kind) _ _ _ e))
]

-- ---- a readable header is legal

abbrev pub AreLegal : Option Header → Type 0
AreLegal found = (h : Header) → found ≡ Some h → is_legal h ≡ true

legal_in : (s : List ℕ) → AreLegal (header_in s)
unfolding header_in
legal_in s h =
    let front = take 106 s in
    elim (said_read front) as (λ r. header_of front r ≡ Some h → is_legal h ≡ true) [
      | Ok x ↦ λ e.
          let said = cond_some (is_readable x.0.0 x.0.1 front) (header_with x.0.0 x.0.1) h e in
          let legal = (and_parts (is_natural 1262637895 x.0.0.magic) (is_legal (header_with x.0.0 x.0.1)) (and_parts _ (is_sealed (said_size x.0.0) front) said.0).0).1 in
          subst (λ (k : Header). is_legal k ≡ true) said.1 legal
      | Err fault ↦ λ e. absurd (none-some h e)
    ]

-- ---- and its generation is a number of 64 bits

first_of : Result (ℤ × List ℕ) WireFault → ℕ
first_of (Ok p) = natural p.0
first_of (Err fault) = 0

fits_in : (z : ℤ) → int64.InRange z → FitsSigned w64 z
unfolding int
fits_in z fits = fits

small_read : (version : ℤ) (s : List ℕ) (z : ℤ) (rest : List ℕ) → generation_read version s ≡ Ok (z, rest) → natural z < 2 ^ 63
unfolding first_of
small_read version s z rest = elim (is_natural 1 version) as (λ b. cond b (Ok (pos 0, s)) (cond (is_natural 2 version) (int64.read s) (Err Bad)) ≡ Ok (z, rest) → natural z < 2 ^ 63) [
  | true ↦ λ e. let zero : natural z ≡ 0 = ap first_of (sym e) in omega (arith, zero)
  | false ↦ elim (is_natural 2 version) as (λ b. cond b (int64.read s) (Err Bad) ≡ Ok (z, rest) → natural z < 2 ^ 63) [
    | true ↦ λ e. let f = int64_lawful.found s z rest e in small_natural z (fits_in z (int64_lawful.in_range f.0 z f.2))
    | false ↦ λ e. absurd cc
  ]
]
  where
    small_natural : (z : ℤ) → FitsSigned w64 z → natural z < 2 ^ 63
    small_natural z fits = search (rules, arith)

pub small_in : (s : List ℕ) (h : Header) → header_in s ≡ Some h → natural h.generation < 2 ^ 63
unfolding header_in said_read
small_in s h =
    let front = take 106 s in
    elim (fields.read front) as (λ r. header_of front (r >>= λ f. generation_read f.0.version f.1 >>= λ g. Ok ((f.0, g.0), g.1)) ≡ Some h → natural h.generation < 2 ^ 63) [
      | Ok f ↦ elim (generation_read f.0.version f.1) as (λ r. generation_read f.0.version f.1 ≡ r → header_of front (r >>= λ g. Ok ((f.0, g.0), g.1)) ≡ Some h → natural h.generation < 2 ^ 63) [
        | Ok g ↦ λ is e.
            let said = cond_some (is_readable f.0 g.0 front) (header_with f.0 g.0) h e in
            subst (λ (k : Header). natural k.generation < 2 ^ 63) said.1 (small_read f.0.version f.1 g.0 g.1 is)
        | Err fault ↦ λ is e. absurd (none-some h e)
      ] refl
      | Err fault ↦ λ e. absurd (none-some h e)
    ]

-- ---- by a header that was read

catalog_by : (names : List (List ℕ)) (t g : ℕ) (name : List ℕ) → Rises names → slice_get names t ≡ Some name → (found : Option Header) → AreLegal found
    → is_owner (Catalog t g) (owner_by names found) ≡ passes (is_of_catalog name g) found
catalog_by names t g name rises at None legal = refl
catalog_by names t g name rises at (Some h) legal =
    catalog_test (is_natural 0 h.kind) (is_natural 1 h.kind) (is_natural g h.generation) (bytes_eq h.tenant name) (natural h.instance) (natural h.partition) (natural h.generation) t g (place_among h.tenant names)
    (at_place names t name h.tenant rises at) (kinds_differ h.kind) (other_kind h (legal h refl)) (λ k. natural_test h.generation g (generation_told h (legal h refl) k))

partition_by : (names : List (List ℕ)) (t i p : ℕ) (name : List ℕ) → Rises names → slice_get names t ≡ Some name → (found : Option Header) → AreLegal found
    → is_owner (Partition t i p) (owner_by names found) ≡ passes (is_of_partition name i p) found
partition_by names t i p name rises at None legal = refl
partition_by names t i p name rises at (Some h) legal =
    partition_test (is_natural 0 h.kind) (is_natural 0 h.generation) (is_natural i h.instance) (is_natural p h.partition) (bytes_eq h.tenant name) (natural h.instance) (natural h.partition) (natural h.generation) t i p (place_among h.tenant names)
    (at_place names t name h.tenant rises at)
    (λ k. natural_test h.instance i (numbers_told h (legal h refl) k).0)
    (λ k. natural_test h.partition p (numbers_told h (legal h refl) k).1)
    (no_generation h (legal h refl))

stray_by : (names : List (List ℕ)) (found : Option Header) → is_none (owner_by names found) ≡ not (passes (is_of_one names) found)
stray_by names None = refl
stray_by names (Some h) =
    stray_test (is_natural 0 h.kind) (list_any (bytes_eq h.tenant) names) (natural h.instance) (natural h.partition) (natural h.generation) (place_among h.tenant names) (has_place names h.tenant)

-- ---- the files

-- whose a file is
abbrev pub owner_in : Files → List (List ℕ) → ℕ → Option Owner
owner_in files names n = owner_by names (header_in (bytes_at files n))

-- each owner's files, and the strays, by whose they are
pub record AreOwned (files : Files) (names : List (List ℕ)) (numbers : List ℕ) (d : Directory) : Type 0 where
  pub of_each : (o : Owner) → files_at o d ≡ filter (λ n. is_owner o (owner_in files names n)) numbers
  pub strays : d.strays.items ≡ filter (λ n. is_none (owner_in files names n)) numbers

one_more : (test : ℕ → Bool) (xs : List ℕ) (i x : ℕ) → i < length xs → x ≡ get_or xs i x → filter test (take i xs) ++ only (test x) x ≡ filter test (take (i + 1) xs)
one_more test xs i x lt is = ap (λ y. filter test (take i xs) ++ cond (test y) (y ∷ []) []) is ∙ sym (filter_more test xs i x lt)

pub owned_more : (files : Files) (names : List (List ℕ)) (xs : List ℕ) (i x : ℕ) (old new : Directory) (o : Option Owner) → i < length xs → x ≡ get_or xs i x
    → AreOwned files names (take i xs) old → o ≡ owner_in files names x → Assigns o x old new → AreOwned files names (take (i + 1) xs) new
owned_more files names xs i x old new o lt is had same adds = record {
  of_each = λ q. adds.files q ∙ ap (λ us. us ++ only (is_owner q o) x) (had.of_each q)
      ∙ ap (λ r. filter (λ n. is_owner q (owner_in files names n)) (take i xs) ++ only (is_owner q r) x) same
      ∙ one_more (λ n. is_owner q (owner_in files names n)) xs i x lt is;
  strays = adds.strays ∙ ap (λ us. us ++ only (is_none o) x) had.strays
      ∙ ap (λ r. filter (λ n. is_none (owner_in files names n)) (take i xs) ++ only (is_none r) x) same
      ∙ one_more (λ n. is_none (owner_in files names n)) xs i x lt is;
}

pub directory_of : (files : Files) (names : List (List ℕ)) (numbers : List ℕ) (d : Directory) → Rises names → AreOwned files names numbers d → IsDirectory files names numbers d
directory_of files names numbers d rises had = record {
  catalogs = λ t g name at. had.of_each (Catalog t g) ∙ filter_agree _ _ (λ n. catalog_by names t g name rises at (header_in (bytes_at files n)) (legal_in (bytes_at files n))) numbers;
  partitions = λ t i p name at. had.of_each (Partition t i p) ∙ filter_agree _ _ (λ n. partition_by names t i p name rises at (header_in (bytes_at files n)) (legal_in (bytes_at files n))) numbers;
  strays = had.strays ∙ filter_agree _ _ (λ n. stray_by names (header_in (bytes_at files n))) numbers;
}
