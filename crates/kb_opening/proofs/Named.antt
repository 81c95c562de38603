-- The place of a name among rising names.
use Rattle.std.proofs.Common.{◌≡◌, ◌∙◌, ℕ, ◌+◌, ◌<◌, ◌==◌, ◌||◌, zero, suc, Bool, true, false, cond, unwrap_or, List, [], ◌∷◌, map, length, get_or, Option, Some, None, Result, Ok, Err, refl, sym, ap, inl, inr, arith}
use Rattle.std.specs.Prelude.{option_map, slice_get, is_some}
use Rattle.std.specs.Result.{result_ok}
use Rattle.std.proofs.Math.ListN.{get_or-map, length-map}
use Rattle.std.specs.Ordering.{ordering_reverse, is_eq, is_lt, nat_cmp}
use Rattle.std.specs.Cmp.Lexicographic.{slice_cmp, nat_list_cmp_total, nat_list_eq_equiv, texts_ties, same_text}
use Rattle.std.specs.FinMap.{slice_cmp-IsAntisymmetric, nat_cmp-IsAntisymmetric}
use Rattle.std.specs.Str.{bytes_eq}
use Rattle.std.specs.List.{AllByRecursion, list_any}
use Rattle.std.specs.List.Sorted.{IsStrictlySortedBy, IsSortedBy, IsBinarySearchResult, IsSearchInRange}
use Rattle.std.specs.declared.cmp.Ordering.{Ordering}
use Rattle.std.specs.declared.cmp.Ordering.TheVariants.{Less, Equal, Greater}
use Rattle.std.proofs.lemmas.Bool.{cases_lt, ne_eqb}
use Rattle.std.proofs.lemmas.Bool.Decides.{same_from_decides, Decides-like, Decides-eqb}
use Rattle.std.proofs.lemmas.Option.{none-some}
use Rattle.std.proofs.lemmas.List.{get_or_default}
use Rattle.std.proofs.lemmas.Map.Keys.{Less-from_sorted}
use Rattle.std.proofs.lemmas.List.Sorted.{searchable_from_sorted}
use Rattle.kb_opening.specs.Owners.{place_among}

-- ---- two names

abbrev pub name_cmp : List ℕ → List ℕ → Ordering
name_cmp = slice_cmp nat_cmp

abbrev pub Rises : List (List ℕ) → Type 0
Rises names = IsStrictlySortedBy name_cmp names

pub same_name : (x y : List ℕ) → bytes_eq x y ≡ true → x ≡ y
same_name x y h = same_text x y (sym h)

tied : (x y : List ℕ) → name_cmp x y ≡ Equal → x ≡ y
tied x y h = slice_cmp-IsAntisymmetric nat_cmp-IsAntisymmetric x y h

apart : (x y : List ℕ) (o : Ordering) → name_cmp x y ≡ o → is_eq o ≡ false → bytes_eq x y ≡ false
apart x y o h other = texts_ties x y ∙ ap is_eq h ∙ other

flipped : (x y : List ℕ) (o : Ordering) → name_cmp x y ≡ o → name_cmp y x ≡ ordering_reverse o
flipped x y o h = nat_list_cmp_total.antisymm y x ∙ ap ordering_reverse h

-- ---- the place

pub place_at : (names : List (List ℕ)) (i : ℕ) (d : List ℕ) → Rises names → i < length names → place_among (get_or names i d) names ≡ Some i
unfolding IsStrictlySortedBy
place_at [] i d rises lt = absurd (omega arith)
place_at (n ∷ ns) zero d rises lt = ap (λ b. cond b (Some 0) (option_map (λ i. 1 + i) (place_among n ns))) (nat_list_eq_equiv.refl n)
place_at (n ∷ ns) (suc j) d rises lt =
    let less : name_cmp n (get_or ns j d) ≡ Less = Less-from_sorted name_cmp (n ∷ ns) 0 (suc j) d rises (omega arith) lt in
    ap (λ b. cond b (Some 0) (option_map (λ i. 1 + i) (place_among (get_or ns j d) ns))) (apart (get_or ns j d) n Greater (flipped n (get_or ns j d) Less less) refl)
    ∙ ap (option_map (λ i. 1 + i)) (place_at ns j d rises.1 (omega arith))
    ∙ ap Some (omega arith)

pub no_place : (name : List ℕ) (names : List (List ℕ)) → ((k : ℕ) (d : List ℕ) → k < length names → bytes_eq name (get_or names k d) ≡ false) → place_among name names ≡ None
no_place name [] apart = refl
no_place name (n ∷ ns) apart =
    ap (λ b. cond b (Some 0) (option_map (λ i. 1 + i) (place_among name ns))) (apart 0 n (omega arith))
    ∙ ap (option_map (λ i. 1 + i)) (no_place name ns (λ k d lt. apart (suc k) d (omega arith)))

-- ---- a search by halving

searchable : {X : Type 0} (f : X → List ℕ) (xs : List X) → Rises (map f xs) → IsSortedBy (λ x y. is_lt (name_cmp (f x) (f y))) xs
searchable f xs rises k d _ lt =
    let here : get_or (map f xs) k (f d) ≡ f (get_or xs k d) = get_or-map f xs k d in
    let next : get_or (map f xs) (k + 1) (f d) ≡ f (get_or xs (k + 1) d) = get_or-map f xs (k + 1) d in
    let len : length (map f xs) ≡ length xs = length-map xs f in
    let less : name_cmp (get_or (map f xs) k (f d)) (get_or (map f xs) (k + 1) (f d)) ≡ Less = Less-from_sorted name_cmp (map f xs) k (k + 1) (f d) rises (omega arith) (omega arith) in
    let less : name_cmp (f (get_or xs k d)) (f (get_or xs (k + 1) d)) ≡ Less = ap (λ a. name_cmp a (f (get_or xs (k + 1) d))) (sym here) ∙ ap (name_cmp (get_or (map f xs) k (f d))) (sym next) ∙ less in
    ap is_lt (flipped (f (get_or xs k d)) (f (get_or xs (k + 1) d)) Less less)

-- what a search finds
pub searched_place : {X : Type 0} (f : X → List ℕ) (xs : List X) (name : List ℕ) (r : Result ℕ ℕ) → IsBinarySearchResult (λ x. name_cmp (f x) name) xs r → IsSearchInRange r (length xs) → Rises (map f xs)
    → result_ok r ≡ place_among name (map f xs)
searched_place f [] name (Ok i) found within rises = absurd (omega arith)
searched_place f [] name (Err i) found within rises = refl
searched_place f (x ∷ xs) name (Ok i) found within rises =
    let here : get_or (map f (x ∷ xs)) i (f x) ≡ f (get_or (x ∷ xs) i x) = get_or-map f (x ∷ xs) i x in
    let len : length (map f (x ∷ xs)) ≡ length (x ∷ xs) = length-map (x ∷ xs) f in
    let is : get_or (map f (x ∷ xs)) i (f x) ≡ name = here ∙ tied _ _ (found x) in
    sym (ap (λ q. place_among q (map f (x ∷ xs))) (sym is) ∙ place_at (map f (x ∷ xs)) i (f x) rises (omega arith))
searched_place f (x ∷ xs) name (Err i) found within rises =
    let parted = found (searchable_from_sorted nat_list_cmp_total f (x ∷ xs) name (searchable f (x ∷ xs) rises)) in
    let len : length (map f (x ∷ xs)) ≡ length (x ∷ xs) = length-map (x ∷ xs) f in
    sym (no_place name (map f (x ∷ xs)) (λ k d lt.
    let at : get_or (map f (x ∷ xs)) k d ≡ f (get_or (x ∷ xs) k x) = get_or_default (map f (x ∷ xs)) k d (f x) lt ∙ get_or-map f (x ∷ xs) k x in
    ap (bytes_eq name) at
    ∙ elim (cases_lt k i) [
      | inl before ↦ apart name (f (get_or (x ∷ xs) k x)) Greater (flipped (f (get_or (x ∷ xs) k x)) name Less (parted.0 k x (omega arith) before)) refl
      | inr behind ↦ apart name (f (get_or (x ∷ xs) k x)) Less (flipped (f (get_or (x ∷ xs) k x)) name Greater (parted.1 k x behind (omega arith))) refl
    ]))

-- ---- tests by the place

-- whether the place is that one
abbrev pub is_place : ℕ → Option ℕ → Bool
is_place t None = false
is_place t (Some i) = i == t

next_place : (t : ℕ) (o : Option ℕ) → is_place (suc t) (option_map (λ i. 1 + i) o) ≡ is_place t o
next_place t None = refl
next_place t (Some i) = same_from_decides (1 + i == suc t) (i == t) (Decides-like _ (λ e. omega (arith, e)) (λ e. omega (arith, e)) (Decides-eqb (1 + i) (suc t))) (Decides-eqb i t)

not_first : (o : Option ℕ) → is_place 0 (option_map (λ i. 1 + i) o) ≡ false
not_first None = refl
not_first (Some i) = ne_eqb (1 + i) 0 (λ e. omega (arith, e))

below_each : (n : List ℕ) (names : List (List ℕ)) (t : ℕ) (name : List ℕ) → AllByRecursion (λ m. name_cmp n m ≡ Less) names → slice_get names t ≡ Some name → bytes_eq n name ≡ false
below_each n [] t name all at = absurd (none-some name at)
below_each n (m ∷ ms) zero name all at = apart n name Less (ap (λ o. name_cmp n (unwrap_or o name)) (sym at) ∙ all.0) refl
below_each n (m ∷ ms) (suc t) name all at = below_each n ms t name all.1 at

-- a name is at the place of another only where they are the same
pub at_place : (names : List (List ℕ)) (t : ℕ) (name q : List ℕ) → Rises names → slice_get names t ≡ Some name → is_place t (place_among q names) ≡ bytes_eq q name
unfolding IsStrictlySortedBy
at_place [] t name q rises at = absurd (none-some name at)
at_place (n ∷ ns) zero name q rises at =
    elim (bytes_eq q n) as (λ b. bytes_eq q n ≡ b → is_place 0 (cond b (Some 0) (option_map (λ i. 1 + i) (place_among q ns))) ≡ bytes_eq q name) [
      | true ↦ λ e. sym (ap (λ o. bytes_eq q (unwrap_or o name)) (sym at) ∙ e)
      | false ↦ λ e. not_first (place_among q ns) ∙ sym (ap (λ o. bytes_eq q (unwrap_or o name)) (sym at) ∙ e)
    ] refl
at_place (n ∷ ns) (suc t) name q rises at =
    elim (bytes_eq q n) as (λ b. bytes_eq q n ≡ b → is_place (suc t) (cond b (Some 0) (option_map (λ i. 1 + i) (place_among q ns))) ≡ bytes_eq q name) [
      | true ↦ λ e. ne_eqb 0 (suc t) (λ z. omega (arith, z)) ∙ sym (ap (λ m. bytes_eq m name) (same_name q n e) ∙ below_each n ns t name rises.0 at)
      | false ↦ λ e. next_place t (place_among q ns) ∙ at_place ns t name q rises.1 at
    ] refl

-- a name has a place where it is one of them
pub has_place : (names : List (List ℕ)) (q : List ℕ) → is_some (place_among q names) ≡ list_any (bytes_eq q) names
has_place [] q = refl
has_place (n ∷ ns) q =
    elim (bytes_eq q n) as (λ b. is_some (cond b (Some 0) (option_map (λ i. 1 + i) (place_among q ns))) ≡ (b || list_any (bytes_eq q) ns)) [
      | true ↦ refl
      | false ↦ mapped (place_among q ns) ∙ has_place ns q
    ]
  where
    mapped : (o : Option ℕ) → is_some (option_map (λ i. 1 + i) o) ≡ is_some o
    mapped None = refl
    mapped (Some i) = refl
