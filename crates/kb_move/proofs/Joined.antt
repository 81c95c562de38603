-- What a tenant has once its files stand behind those of another store.
use Rattle.std.proofs.Common.{◌≡◌, ◌∙◌, ◌<◌, ◌&&◌, ◌++◌, ℕ, Bool, true, false, List, [], ◌∷◌, length, map, get_or, append-nil, ap, refl, sym, subst}
use Rattle.std.specs.Prelude.{filter, if◌then◌else◌, Option, Some, None, bytes_eq}
use Rattle.std.specs.List.{All, AllByRecursion, range_with_len}
use Rattle.std.specs.Ordering.{nat_cmp}
use Rattle.std.specs.FinMap.{keys}
use Rattle.std.proofs.lemmas.List.{length-map}
use Rattle.std.proofs.lemmas.List.Elements.{All-from_recursion, All-map, filter-append}
use Rattle.std.proofs.lemmas.List.Kept.{IsStrictlySortedBy-filter}
use Rattle.std.proofs.lemmas.Slice.Eq.{bytes_eq-Decides}
use Rattle.kb_store.specs.Disk.{Files}
use Rattle.kb_segment.specs.Header.{Header, header_in}
use Rattle.kb_segment_log.specs.SegmentLog.{bytes_at}
use Rattle.kb_opening.specs.Opened.{IsOpened}
use Rattle.kb_opening.specs.Owners.{is_of_catalog, is_of_partition, passes, says}
use Rattle.kb_topics.specs.Known.{Known}
use Rattle.kb_tenant_state.specs.Logs.{Logs}
use Rattle.kb_move.specs.Alike.{AreAlike, Opens, is_named, with_owned_files, numbers_here, numbers_there, owned_in, owners_of}
use Rattle.kb_move.proofs.Alike.{filter_alike, filter_map, opened_alike, there_of}
use Rattle.kb_move.proofs.Placed.{all_so, bytes_before, keys_placed, keys_rise, pairs, pairs_here, pairs_there, placed_alike}

-- ---- a test that asks for more

pub filter_narrow : {X : Type 0} (p q : X → Bool) → ((x : X) → p x ≡ true → q x ≡ true) → (xs : List X) → filter p (filter q xs) ≡ filter p xs
filter_narrow p q so [] = refl
filter_narrow p q so (x ∷ xs) = by (filter_narrow p q so xs) (p x) (q x) refl refl
  where
    by : filter p (filter q xs) ≡ filter p xs → (a b : Bool) → p x ≡ a → q x ≡ b
        → filter p (if◌then◌else◌ (q x) (x ∷ filter q xs) (filter q xs)) ≡ (if◌then◌else◌ (p x) (x ∷ filter p xs) (filter p xs))
    by rest true true e h = ap (λ b. filter p (if◌then◌else◌ b (x ∷ filter q xs) (filter q xs))) h ∙ ap (λ a. if◌then◌else◌ a (x ∷ filter p (filter q xs)) (filter p (filter q xs))) e ∙ ap (λ ys. x ∷ ys) rest ∙ sym (ap (λ a. if◌then◌else◌ a (x ∷ filter p xs) (filter p xs)) e)
    by rest true false e h = let none : true ≡ false = sym (so x e) ∙ h in absurd cc
    by rest false true e h = ap (λ b. filter p (if◌then◌else◌ b (x ∷ filter q xs) (filter q xs))) h ∙ ap (λ a. if◌then◌else◌ a (x ∷ filter p (filter q xs)) (filter p (filter q xs))) e ∙ rest ∙ sym (ap (λ a. if◌then◌else◌ a (x ∷ filter p xs) (filter p xs)) e)
    by rest false false e h = ap (λ b. filter p (if◌then◌else◌ b (x ∷ filter q xs) (filter q xs))) h ∙ rest ∙ sym (ap (λ a. if◌then◌else◌ a (x ∷ filter p xs) (filter p xs)) e)

both_left : (a b : Bool) → (a && b) ≡ true → a ≡ true
both_left true b e = refl
both_left false b e = absurd cc

passed : (test more : Header → Bool) → ((h : Header) → test h ≡ true → more h ≡ true) → (o : Option Header) → passes test o ≡ true → passes more o ≡ true
passed test more so None e = e
passed test more so (Some h) e = so h e

pub of_catalog_named : (name : List ℕ) (g : ℕ) (h : Header) → is_of_catalog name g h ≡ true → is_named name h ≡ true
of_catalog_named name g h e = both_left _ _ (both_left _ _ e)

pub of_partition_named : (name : List ℕ) (i p : ℕ) (h : Header) → is_of_partition name i p h ≡ true → is_named name h ≡ true
of_partition_named name i p h e = both_left _ _ (both_left _ _ (both_left _ _ (both_left _ _ e)))

-- ---- one log's files

module _ (n : ℕ) (name : List ℕ) (from to : Files) (under : AllByRecursion (λ m. m < n) (keys to)) (alone : owned_in name to ≡ []) where
  abbrev all : Files
  all = with_owned_files n name from to

  abbrev new : List ℕ
  new = range_with_len n (length (owned_in name from))

  module _ (test : Header → Bool) (so : (h : Header) → test h ≡ true → is_named name h ≡ true) where
    says_so : (files : Files) (m : ℕ) → says files test m ≡ true → says files (is_named name) m ≡ true
    says_so files m e = passed test (is_named name) so (header_in (bytes_at files m)) e

    none_before : filter (says all test) (keys to) ≡ []
    none_before =
        filter_alike (says all test) (says to test) (keys to)
        (all_so (λ m. m < n) (λ m. says all test m ≡ says to test m) (λ m lt. ap (λ b. passes test (header_in b)) (bytes_before (map (bytes_at from) (owned_in name from)) n m to lt)) (keys to) under)
        ∙ sym (filter_narrow (says to test) (says to (is_named name)) (says_so to) (keys to))
        ∙ ap (filter (says to test)) alone

    there_is : filter (says all test) new ≡ filter (says all test) (keys all)
    there_is =
        sym (ap (λ ks. filter (says all test) ks) (keys_placed (map (bytes_at from) (owned_in name from)) n to under
        ∙ ap (λ l. keys to ++ range_with_len n l) (length-map (owned_in name from) (bytes_at from)))
        ∙ filter-append (says all test) (keys to) new
        ∙ ap (λ xs. xs ++ filter (says all test) new) none_before)

    here_is : filter (says from test) (keys from) ≡ filter (says from test) (owned_in name from)
    here_is = sym (filter_narrow (says from test) (says from (is_named name)) (says_so from) (keys from))

  -- ---- the tenant

  owners_here : owners_of from (keys from) name ≡ owners_of from (owned_in name from) name
  owners_here = λ j. record {
    catalog = λ g. here_is (is_of_catalog name g) (of_catalog_named name g) j;
    partition = λ i p. here_is (is_of_partition name i p) (of_partition_named name i p) j;
  }

  owners_there : owners_of all new name ≡ owners_of all (keys all) name
  owners_there = λ j. record {
    catalog = λ g. there_is (is_of_catalog name g) (of_catalog_named name g) j;
    partition = λ i p. there_is (is_of_partition name i p) (of_partition_named name i p) j;
  }

pub opens_joined : (from to : Files) (name : List ℕ) (n : ℕ) (k : Known) (logs : Logs) → AllByRecursion (λ m. m < n) (keys to)
    → owned_in name to ≡ [] → Opens from name k logs → Opens (with_owned_files n name from to) name k logs
opens_joined from to name n k logs under alone o =
    let xs = owned_in name from in
    let all = with_owned_files n name from to in
    let rise = IsStrictlySortedBy-filter nat_cmp (says from (is_named name)) (keys from) (keys_rise from) in
    let here = subst (λ w. IsOpened from w k logs) (owners_here n name from to under alone) o in
    let paired = subst (λ ns. IsOpened from (owners_of from ns name) k logs) (sym (pairs_here n xs)) here in
    let there = opened_alike from all (pairs n xs) name k logs (placed_alike n xs from to rise) paired in
    subst (λ w. IsOpened all w k logs) (owners_there n name from to under alone)
    (subst (λ ns. IsOpened all (owners_of all ns name) k logs) (pairs_there n xs) there)

-- ---- another tenant

filter_apart : {X : Type 0} (p q : X → Bool) → ((x : X) → p x ≡ true → q x ≡ true → ⊥) → (xs : List X) → filter p (filter q xs) ≡ []
filter_apart p q apart [] = refl
filter_apart p q apart (x ∷ xs) = by (filter_apart p q apart xs) (p x) (q x) refl refl
  where
    by : filter p (filter q xs) ≡ [] → (a b : Bool) → p x ≡ a → q x ≡ b → filter p (if◌then◌else◌ (q x) (x ∷ filter q xs) (filter q xs)) ≡ []
    by rest true true e h = absurd (apart x e h)
    by rest false true e h = ap (λ b. filter p (if◌then◌else◌ b (x ∷ filter q xs) (filter q xs))) h ∙ ap (λ a. if◌then◌else◌ a (x ∷ filter p (filter q xs)) (filter p (filter q xs))) e ∙ rest
    by rest a false e h = ap (λ b. filter p (if◌then◌else◌ b (x ∷ filter q xs) (filter q xs))) h ∙ rest

no_pair : (ps : List (ℕ × ℕ)) → numbers_here ps ≡ [] → numbers_there ps ≡ []
no_pair [] e = refl
no_pair (p ∷ ps) e = absurd cc

unfoldable pub same_pairs : List ℕ → List (ℕ × ℕ)
same_pairs ms = map (λ m. (m, m)) ms

module _ (n : ℕ) (name other : List ℕ) (from to : Files) (under : AllByRecursion (λ m. m < n) (keys to)) (apart : bytes_eq name other ≡ false) where
  abbrev with : Files
  with = with_owned_files n name from to

  not_both : (h : Header) → is_named other h ≡ true → is_named name h ≡ true → ⊥
  not_both h a b =
      let x : h.tenant ≡ other = (bytes_eq-Decides h.tenant other).0 a in
      let y : h.tenant ≡ name = (bytes_eq-Decides h.tenant name).0 b in
      let same : bytes_eq name other ≡ true = ap (λ t. bytes_eq t other) (sym y) ∙ a in
      let no : true ≡ false = sym same ∙ apart in absurd cc

  unlike : (test : Header → Bool) → ((h : Header) → test h ≡ true → is_named other h ≡ true)
      → (o : Option Header) → passes test o ≡ true → passes (is_named name) o ≡ true → ⊥
  unlike test so None a b = absurd cc
  unlike test so (Some h) a b = not_both h (so h a) b

  module _ (test : Header → Bool) (so : (h : Header) → test h ≡ true → is_named other h ≡ true) where
    none_new : filter (says with test) (range_with_len n (length (owned_in name from))) ≡ []
    none_new =
        let xs = owned_in name from in
        let ps = pairs n xs in
        let rise = IsStrictlySortedBy-filter nat_cmp (says from (is_named name)) (keys from) (keys_rise from) in
        let mine = filter (λ (p : ℕ × ℕ). says from test p.0) ps in
        let here : numbers_here mine ≡ [] =
        sym (filter_map (λ (p : ℕ × ℕ). p.0) (says from test) ps)
        ∙ ap (filter (says from test)) (pairs_here n xs)
        ∙ filter_apart (says from test) (says from (is_named name)) (λ m a b. unlike test so (header_in (bytes_at from m)) a b) (keys from) in
        ap (filter (says with test)) (sym (pairs_there n xs)) ∙ there_of from with test ps (placed_alike n xs from to rise) ∙ no_pair mine here

    stays : filter (says with test) (keys to) ≡ filter (says with test) (keys with)
    stays =
        sym (ap (filter (says with test)) (keys_placed (map (bytes_at from) (owned_in name from)) n to under
        ∙ ap (λ l. keys to ++ range_with_len n l) (length-map (owned_in name from) (bytes_at from)))
        ∙ filter-append (says with test) (keys to) (range_with_len n (length (owned_in name from)))
        ∙ ap (λ ys. filter (says with test) (keys to) ++ ys) none_new
        ∙ append-nil (filter (says with test) (keys to)))

  others_there : owners_of with (keys to) other ≡ owners_of with (keys with) other
  others_there = λ j. record {
    catalog = λ g. stays (is_of_catalog other g) (of_catalog_named other g) j;
    partition = λ i p. stays (is_of_partition other i p) (of_partition_named other i p) j;
  }

  same_alike : AreAlike to with (same_pairs (keys to))
  unfolding same_pairs
  same_alike = record {
    bytes = All-map (λ (p : ℕ × ℕ). bytes_at with p.1 ≡ bytes_at to p.0) (λ m. (m, m)) (keys to)
        (All-from_recursion (λ m. bytes_at with m ≡ bytes_at to m) (keys to)
        (all_so (λ m. m < n) (λ m. bytes_at with m ≡ bytes_at to m) (λ m lt. bytes_before (map (bytes_at from) (owned_in name from)) n m to lt) (keys to) under));
    order = All-map (λ (p : ℕ × ℕ). All (λ (q : ℕ × ℕ). nat_cmp p.1 q.1 ≡ nat_cmp p.0 q.0) (map (λ m. (m, m)) (keys to))) (λ m. (m, m)) (keys to)
        (λ k d lt. All-map (λ (q : ℕ × ℕ). nat_cmp (get_or (keys to) k d) q.1 ≡ nat_cmp (get_or (keys to) k d) q.0) (λ m. (m, m)) (keys to) (λ j e le. refl));
  }

pub same_here : (ms : List ℕ) → numbers_here (same_pairs ms) ≡ ms
unfolding same_pairs
same_here [] = refl
same_here (m ∷ ms) = ap (λ ys. m ∷ ys) (same_here ms)

pub same_there : (ms : List ℕ) → numbers_there (same_pairs ms) ≡ ms
unfolding same_pairs
same_there [] = refl
same_there (m ∷ ms) = ap (λ ys. m ∷ ys) (same_there ms)

pub opens_beside : (from to : Files) (name other : List ℕ) (n : ℕ) (k : Known) (logs : Logs) → AllByRecursion (λ m. m < n) (keys to)
    → bytes_eq name other ≡ false → Opens to other k logs → Opens (with_owned_files n name from to) other k logs
opens_beside from to name other n k logs under apart o =
    let all = with_owned_files n name from to in
    let paired = subst (λ ns. IsOpened to (owners_of to ns other) k logs) (sym (same_here (keys to))) o in
    let there = opened_alike to all (same_pairs (keys to)) other k logs (same_alike n name other from to under apart) paired in
    subst (λ w. IsOpened all w k logs) (others_there n name other from to under apart)
    (subst (λ ns. IsOpened all (owners_of all ns other) k logs) (same_there (keys to)) there)
