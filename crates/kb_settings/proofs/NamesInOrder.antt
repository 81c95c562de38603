-- Names in byte order: in_order rises, has the same names, and is the one list that does.
use Rattle.std.proofs.Common.{◌≡◌, ℕ, ◌+◌, ◌<◌, ◌≤◌, zero, suc, Bool, true, false, not, ◌||◌, ◌&&◌, MatchBool, cond, List, [], ◌∷◌, map, length, get_or, Result, Ok, Err, MatchResult, refl, sym, ap, subst, ◌∙◌, inl, inr, arith}
use Rattle.std.proofs.Math.ListN.{get_or-map, length-map}
use Rattle.std.specs.Ordering.{ordering_reverse, is_eq, is_lt}
use Rattle.std.specs.Cmp.{tied_itself}
use Rattle.std.proofs.lemmas.Bool.{cases_lt}
use Rattle.std.proofs.lemmas.List.{get_or_default}
use Rattle.std.proofs.lemmas.Map.Keys.{Less-from_sorted}
use Rattle.std.specs.declared.cmp.Ordering.{Ordering}
use Rattle.std.specs.declared.cmp.Ordering.TheVariants.{Less, Equal, Greater}
use Rattle.std.specs.Str.{bytes_eq}
use Rattle.std.specs.List.{AllByRecursion, list_any, Contains, dedup, dedup_from}
use Rattle.std.specs.List.Sorted.{IsStrictlySortedBy, IsPermutation, IsSorted, IsSortedBy, IsBinarySearchResult, IsSearchInRange}
use Rattle.std.specs.Cmp.Lexicographic.{nat_list_cmp_total, nat_list_eq_equiv, texts_ties, same_text, on_texts}
use Rattle.std.specs.FinMap.{slice_cmp-IsAntisymmetric, nat_cmp-IsAntisymmetric}
use Rattle.std.proofs.lemmas.List.Sorted.{list_any-IsPermutation, searchable_from_sorted}
use Rattle.std.proofs.lemmas.List.Kept.{IsStrictlySortedBy-dedup}
use Rattle.std.proofs.lemmas.Map.Views.{list_any-from_Contains, Contains-from_any}
use Rattle.kb_settings.specs.Names.{byte_order, by_order, with_name, in_order, place_of_name}
use Rattle.kb_settings.specs.Settings.{are_different}

-- 1. Two names

same_name : (x y : List ℕ) → bytes_eq x y ≡ true → x ≡ y
same_name x y h = same_text x y (sym h)

tied : (x y : List ℕ) → byte_order x y ≡ Equal → x ≡ y
tied x y h = slice_cmp-IsAntisymmetric nat_cmp-IsAntisymmetric x y h

apart : (x y : List ℕ) → byte_order x y ≡ Less → bytes_eq x y ≡ false
apart x y h = texts_ties x y ∙ ap is_eq h

flip : (x y : List ℕ) → byte_order x y ≡ Greater → byte_order y x ≡ Less
flip x y h = nat_list_cmp_total.antisymm y x ∙ ap ordering_reverse h

or_same : (a b : Bool) → (a || b) ≡ (a || (a || b))
or_same true b = refl
or_same false b = refl

or_swap : (a b c : Bool) → (a || (b || c)) ≡ (b || (a || c))
or_swap true true c = refl
or_swap true false c = refl
or_swap false b c = refl

-- 2. One name below others

abbrev pub Below : List ℕ → List (List ℕ) → Type 0
Below x ys = AllByRecursion (λ y. byte_order x y ≡ Less) ys

none-below : (x : List ℕ) (ys : List (List ℕ)) → Below x ys → list_any (bytes_eq x) ys ≡ false
none-below x [] all = refl
none-below x (y ∷ ys) all = ap (λ b. b || list_any (bytes_eq x) ys) (apart x y all.0) ∙ none-below x ys all.1

below-trans : (x y : List ℕ) (zs : List (List ℕ)) → byte_order x y ≡ Less → Below y zs → Below x zs
below-trans x y [] h all = tt
below-trans x y (z ∷ zs) h all = (nat_list_cmp_total.trans x y z h all.0, below-trans x y zs h all.1)

-- 3. with_name

all-with_name : (P : List ℕ → Type 0) (n : List ℕ) (ns : List (List ℕ)) → P n → AllByRecursion P ns → AllByRecursion P (with_name n ns)
all-with_name P n [] one all = (one, tt)
all-with_name P n (m ∷ ms) one all =
    elim (byte_order n m) as (λ o. AllByRecursion P (by_order o (n ∷ m ∷ ms) (m ∷ ms) (m ∷ with_name n ms))) [
      | Less ↦ (one, all)
      | Equal ↦ all
      | Greater ↦ (all.0, all-with_name P n ms one all.1)
    ]

abbrev pub Rises : List (List ℕ) → Type 0
Rises ns = IsStrictlySortedBy byte_order ns

rises-with_name : (n : List ℕ) (ns : List (List ℕ)) → Rises ns → Rises (with_name n ns)
unfolding IsStrictlySortedBy
rises-with_name n [] h = (tt, tt)
rises-with_name n (m ∷ ms) h =
    elim (byte_order n m) as (λ o. byte_order n m ≡ o → Rises (by_order o (n ∷ m ∷ ms) (m ∷ ms) (m ∷ with_name n ms))) [
      | Less ↦ λ e. ((e, below-trans n m ms e h.0), h)
      | Equal ↦ λ e. h
      | Greater ↦ λ e. (all-with_name (λ y. byte_order m y ≡ Less) n ms (flip n m e) h.0, rises-with_name n ms h.1)
    ] refl

any-with_name : (q n : List ℕ) (ns : List (List ℕ)) → list_any (bytes_eq q) (with_name n ns) ≡ (bytes_eq q n || list_any (bytes_eq q) ns)
any-with_name q n [] = refl
any-with_name q n (m ∷ ms) =
    elim (byte_order n m) as (λ o. byte_order n m ≡ o → list_any (bytes_eq q) (by_order o (n ∷ m ∷ ms) (m ∷ ms) (m ∷ with_name n ms)) ≡ (bytes_eq q n || (bytes_eq q m || list_any (bytes_eq q) ms))) [
      | Less ↦ λ e. refl
      | Equal ↦ λ e. or_same (bytes_eq q m) _ ∙ ap (λ k. bytes_eq q k || (bytes_eq q m || list_any (bytes_eq q) ms)) (sym (tied n m e))
      | Greater ↦ λ e. ap (λ b. bytes_eq q m || b) (any-with_name q n ms) ∙ or_swap (bytes_eq q m) (bytes_eq q n) _
    ] refl

-- 4. in_order

pub rises-in_order : (ns : List (List ℕ)) → Rises (in_order ns)
unfolding IsStrictlySortedBy
rises-in_order [] = tt
rises-in_order (n ∷ ns) = rises-with_name n (in_order ns) (rises-in_order ns)

pub any-in_order : (q : List ℕ) (ns : List (List ℕ)) → list_any (bytes_eq q) (in_order ns) ≡ list_any (bytes_eq q) ns
any-in_order q [] = refl
any-in_order q (n ∷ ns) = any-with_name q n (in_order ns) ∙ ap (λ b. bytes_eq q n || b) (any-in_order q ns)

pub any-of : (q : List ℕ) (ns : List (List ℕ)) → Contains ns q → list_any (bytes_eq q) ns ≡ true
any-of q ns h = list_any-from_Contains nat_list_eq_equiv q ns h

pub of-any : (q : List ℕ) (ns : List (List ℕ)) → list_any (bytes_eq q) ns ≡ true → Contains ns q
of-any q ns h = Contains-from_any same_name q ns h

pub in-in_order : (ns : List (List ℕ)) (q : List ℕ) → Contains ns q → Contains (in_order ns) q
in-in_order ns q h = of-any q (in_order ns) (any-in_order q ns ∙ any-of q ns h)

pub of-in_order : (ns : List (List ℕ)) (q : List ℕ) → Contains (in_order ns) q → Contains ns q
of-in_order ns q h = of-any q ns (sym (any-in_order q ns) ∙ any-of q (in_order ns) h)

-- 5. Only one list rises and has these names

any-head : (x : List ℕ) (xs : List (List ℕ)) → list_any (bytes_eq x) (x ∷ xs) ≡ true
any-head x xs = ap (λ b. b || list_any (bytes_eq x) xs) (nat_list_eq_equiv.refl x)

true-false : {A : Type 0} {b : Bool} → b ≡ true → b ≡ false → A
true-false p q = absurd (cc)

-- where a name is first and below all others, the others have what the list has but it
any-tail : (q x : List ℕ) (xs ys : List (List ℕ)) → Below x xs → Below x ys → list_any (bytes_eq q) (x ∷ xs) ≡ list_any (bytes_eq q) (x ∷ ys) → list_any (bytes_eq q) xs ≡ list_any (bytes_eq q) ys
any-tail q x xs ys bx by h =
    elim (bytes_eq q x) as (λ b. bytes_eq q x ≡ b → (b || list_any (bytes_eq q) xs) ≡ (b || list_any (bytes_eq q) ys) → list_any (bytes_eq q) xs ≡ list_any (bytes_eq q) ys) [
      | true ↦ λ e _. subst (λ (k : List ℕ). list_any (bytes_eq k) xs ≡ list_any (bytes_eq k) ys) (sym (same_name q x e)) (none-below x xs bx ∙ sym (none-below x ys by))
      | false ↦ λ e k. k
    ] refl h

-- a name that is below the first of a rising list is not in it
not-in : (x y : List ℕ) (ys : List (List ℕ)) → byte_order x y ≡ Less → Below y ys → list_any (bytes_eq x) (y ∷ ys) ≡ false
not-in x y ys h all = none-below x (y ∷ ys) (h, below-trans x y ys h all)

pub same-rising : (xs ys : List (List ℕ)) → Rises xs → Rises ys → ((q : List ℕ) → list_any (bytes_eq q) xs ≡ list_any (bytes_eq q) ys) → xs ≡ ys
unfolding IsStrictlySortedBy
same-rising [] [] rx ry h = refl
same-rising [] (y ∷ ys) rx ry h = true-false (h y ∙ any-head y ys) refl
same-rising (x ∷ xs) [] rx ry h = true-false (sym (h x) ∙ any-head x xs) refl
same-rising (x ∷ xs) (y ∷ ys) rx ry h =
    elim (byte_order x y) as (λ o. byte_order x y ≡ o → x ∷ xs ≡ y ∷ ys) [
      | Less ↦ λ e. true-false (any-head x xs) (h x ∙ not-in x y ys e ry.0)
      | Equal ↦ λ e.
          let same : x ≡ y = tied x y e in
          let by : Below x ys = subst (λ (k : List ℕ). Below k ys) (sym same) ry.0 in
          let hs : (q : List ℕ) → list_any (bytes_eq q) (x ∷ xs) ≡ list_any (bytes_eq q) (x ∷ ys) = λ q. h q ∙ ap (λ k. bytes_eq q k || list_any (bytes_eq q) ys) (sym same) in
          ap (λ k. k ∷ xs) same ∙ ap (λ ks. y ∷ ks) (same-rising xs ys rx.1 ry.1 (λ q. any-tail q x xs ys rx.0 by (hs q)))
      | Greater ↦ λ e. true-false (any-head y ys) (sym (h y) ∙ not-in y x xs (flip x y e) rx.0)
    ] refl

pub only-in_order : (ns xs : List (List ℕ)) → Rises xs → ((q : List ℕ) → list_any (bytes_eq q) xs ≡ list_any (bytes_eq q) ns) → xs ≡ in_order ns
only-in_order ns xs rises h = same-rising xs (in_order ns) rises (rises-in_order ns) (λ q. h q ∙ sym (any-in_order q ns))

-- 6. A sort that drops repeats

any-dedup_from : {X : Type 0} (E : X → X → Bool) (p : X → Bool) → ((x y : X) → E x y ≡ true → p x ≡ p y) → (k : X) (xs : List X) → list_any p (dedup_from E k xs) ≡ (p k || list_any p xs)
any-dedup_from E p same k [] = refl
any-dedup_from E p same k (x ∷ xs) =
    elim (E x k) as (λ b. E x k ≡ b → list_any p (cond b (dedup_from E k xs) (k ∷ dedup_from E x xs)) ≡ (p k || (p x || list_any p xs))) [
      | true ↦ λ e. any-dedup_from E p same k xs ∙ or_same (p k) _ ∙ ap (λ b. p k || (b || list_any p xs)) (sym (same x k e))
      | false ↦ λ e. ap (λ b. p k || b) (any-dedup_from E p same x xs)
    ] refl

any-dedup : {X : Type 0} (E : X → X → Bool) (p : X → Bool) → ((x y : X) → E x y ≡ true → p x ≡ p y) → (xs : List X) → list_any p (dedup E xs) ≡ list_any p xs
any-dedup E p same [] = refl
any-dedup E p same (x ∷ xs) = any-dedup_from E p same x xs

pub any-map : {X Y : Type 0} (f : X → Y) (p : Y → Bool) (xs : List X) → list_any p (map f xs) ≡ list_any (λ x. p (f x)) xs
any-map f p [] = refl
any-map f p (x ∷ xs) = ap (λ b. p (f x) || b) (any-map f p xs)

below-map : {X : Type 0} (f : X → List ℕ) (n : List ℕ) (xs : List X) → AllByRecursion (λ y. byte_order n (f y) ≡ Less) xs → Below n (map f xs)
below-map f n [] all = tt
below-map f n (x ∷ xs) all = (all.0, below-map f n xs all.1)

rises-map : {X : Type 0} (f : X → List ℕ) (xs : List X) → IsStrictlySortedBy (λ x y. byte_order (f x) (f y)) xs → Rises (map f xs)
unfolding IsStrictlySortedBy
rises-map f [] h = tt
rises-map f (x ∷ xs) h = (below-map f (f x) xs h.0, rises-map f xs h.1)

-- what a sort and a dedup leave of some names
pub sorted-in_order : {X : Type 0} (f : X → List ℕ) (given sorted kept : List X) → IsPermutation given sorted → IsSorted (λ x y. byte_order (f x) (f y)) sorted → kept ≡ dedup (λ x y. bytes_eq (f x) (f y)) sorted → map f kept ≡ in_order (map f given)
sorted-in_order {X} f given sorted kept moved up is =
    let E : X → X → Bool = λ x y. bytes_eq (f x) (f y) in
    let rises : Rises (map f kept) = rises-map f kept (subst (λ (ks : List X). IsStrictlySortedBy (λ x y. byte_order (f x) (f y)) ks) (sym is) (IsStrictlySortedBy-dedup (on_texts f) (λ x y. texts_ties (f x) (f y)) sorted up)) in
    only-in_order (map f given) (map f kept) rises (λ q.
    let p : X → Bool = λ x. bytes_eq q (f x) in
    any-map f (bytes_eq q) kept
    ∙ ap (list_any p) is
    ∙ any-dedup E p (λ x y h. ap (bytes_eq q) (same_name (f x) (f y) h)) sorted
    ∙ sym (list_any-IsPermutation p given sorted moved)
    ∙ sym (any-map f (bytes_eq q) given))

-- 7. The place of a name

pub place-at : (ns : List (List ℕ)) (i : ℕ) (d : List ℕ) → Rises ns → i < length ns → place_of_name (get_or ns i d) ns ≡ i
unfolding IsStrictlySortedBy
place-at [] i d rises lt = absurd (omega arith)
place-at (n ∷ ns) zero d rises lt = ap (λ b. cond b 0 (1 + place_of_name n ns)) (nat_list_eq_equiv.refl n)
place-at (n ∷ ns) (suc j) d rises lt =
    let below : byte_order n (get_or ns j d) ≡ Less = Less-from_sorted byte_order (n ∷ ns) 0 (suc j) d rises (omega arith) lt in
    let after : place_of_name (get_or ns j d) ns ≡ j = place-at ns j d rises.1 (omega arith) in
    ap (λ b. cond b 0 (1 + place_of_name (get_or ns j d) ns)) (apart n (get_or ns j d) below) ∙ omega (arith, after)

-- the place of a name that is there is a place of the list
pub place-below : (ns : List (List ℕ)) (n : List ℕ) → Rises ns → Contains ns n → place_of_name n ns < length ns
place-below ns n rises (k, lt, is) = subst (λ (m : ℕ). m < length ns) (sym (ap (λ q. place_of_name q ns) (sym is) ∙ place-at ns k n rises lt)) lt

searchable : {X : Type 0} (f : X → List ℕ) (xs : List X) → Rises (map f xs) → IsSortedBy (λ x y. is_lt (byte_order (f x) (f y))) xs
searchable f xs rises k d _ lt =
    let here : get_or (map f xs) k (f d) ≡ f (get_or xs k d) = get_or-map f xs k d in
    let next : get_or (map f xs) (k + 1) (f d) ≡ f (get_or xs (k + 1) d) = get_or-map f xs (k + 1) d in
    let len : length (map f xs) ≡ length xs = length-map xs f in
    let less : byte_order (get_or (map f xs) k (f d)) (get_or (map f xs) (k + 1) (f d)) ≡ Less = Less-from_sorted byte_order (map f xs) k (k + 1) (f d) rises (omega arith) (omega arith) in
    let less : byte_order (f (get_or xs k d)) (f (get_or xs (k + 1) d)) ≡ Less = ap (λ a. byte_order a (f (get_or xs (k + 1) d))) (sym here) ∙ ap (byte_order (get_or (map f xs) k (f d))) (sym next) ∙ less in
    ap is_lt (nat_list_cmp_total.antisymm (f (get_or xs (k + 1) d)) (f (get_or xs k d)) ∙ ap ordering_reverse less)

not-equal : {A : Type 0} {o : Ordering} → o ≡ Equal → o ≡ Less → A
not-equal p q = absurd (cc)

nor-equal : {A : Type 0} {o : Ordering} → o ≡ Equal → o ≡ Greater → A
nor-equal p q = absurd (cc)

-- what a search answers for a name that is there
pub searched-place : {X : Type 0} (f : X → List ℕ) (xs : List X) (n : List ℕ) (r : Result ℕ ℕ) → IsBinarySearchResult (λ x. byte_order (f x) n) xs r → IsSearchInRange r (length xs) → Rises (map f xs) → Contains (map f xs) n → MatchResult r (λ i. i ≡ place_of_name n (map f xs)) (λ i. i ≡ place_of_name n (map f xs))
searched-place f [] n r found within rises (k, lt, is) = absurd (omega arith)
searched-place f (x ∷ xs) n (Ok i) found within rises (k, lt, is) =
    let here : get_or (map f (x ∷ xs)) i (f x) ≡ f (get_or (x ∷ xs) i x) = get_or-map f (x ∷ xs) i x in
    let len : length (map f (x ∷ xs)) ≡ length (x ∷ xs) = length-map (x ∷ xs) f in
    let name : get_or (map f (x ∷ xs)) i (f x) ≡ n = here ∙ tied _ _ (found x) in
    sym (ap (λ q. place_of_name q (map f (x ∷ xs))) (sym name) ∙ place-at (map f (x ∷ xs)) i (f x) rises (omega arith))
searched-place f (x ∷ xs) n (Err i) found within rises (k, lt, is) =
    let parted = found (searchable_from_sorted nat_list_cmp_total f (x ∷ xs) n (searchable f (x ∷ xs) rises)) in
    let len : length (map f (x ∷ xs)) ≡ length (x ∷ xs) = length-map (x ∷ xs) f in
    let name : f (get_or (x ∷ xs) k x) ≡ n = sym (get_or-map f (x ∷ xs) k x) ∙ get_or_default (map f (x ∷ xs)) k (f x) n lt ∙ is in
    let equal : byte_order (f (get_or (x ∷ xs) k x)) n ≡ Equal = ap (λ q. byte_order q n) name ∙ tied_itself nat_list_cmp_total n in
    elim (cases_lt k i) [
      | inl before ↦ not-equal equal (parted.0 k x (omega arith) before)
      | inr behind ↦ nor-equal equal (parted.1 k x behind (omega arith))
    ]

-- the place where the name is found, and else the place that the search answers
pub searched-either : (r : Result ℕ ℕ) (i v : ℕ) (Q : ℕ → Type 0) → ((e : ℕ) → Q e → i ≡ e) → MatchResult r (λ x. i ≡ x) Q → MatchResult r (λ x. x ≡ v) (λ x. x ≡ v) → i ≡ v
searched-either (Ok x) i v Q gives is place = is ∙ place
searched-either (Err e) i v Q gives is place = gives e is ∙ place

pub place-in_order : (ns : List (List ℕ)) (n : List ℕ) → Contains ns n → place_of_name n (in_order ns) < length (in_order ns)
place-in_order ns n h = place-below (in_order ns) n (rises-in_order ns) (in-in_order ns n h)

at-place : (ns : List (List ℕ)) (n d : List ℕ) → Rises ns → Contains ns n → get_or ns (place_of_name n ns) d ≡ n
at-place ns n d rises (k, lt, is) = ap (λ i. get_or ns i d) (ap (λ q. place_of_name q ns) (sym is) ∙ place-at ns k n rises lt) ∙ get_or_default ns k d n lt ∙ is

pub in_order-at-place : (ns : List (List ℕ)) (n d : List ℕ) → Contains ns n → get_or (in_order ns) (place_of_name n (in_order ns)) d ≡ n
in_order-at-place ns n d h = at-place (in_order ns) n d (rises-in_order ns) (in-in_order ns n h)

same-test : (a b : Bool) → (a ≡ true → b ≡ true) → (b ≡ true → a ≡ true) → a ≡ b
same-test true b there back = sym (there refl)
same-test false true there back = back refl
same-test false false there back = refl

pub only-one-in_order : (ns xs : List (List ℕ)) → Rises xs → ((q : List ℕ) → Contains xs q → Contains ns q) → ((q : List ℕ) → Contains ns q → Contains xs q) → xs ≡ in_order ns
only-one-in_order ns xs rises there back = only-in_order ns xs rises (λ q. same-test (list_any (bytes_eq q) xs) (list_any (bytes_eq q) ns) (λ h. any-of q ns (there q (of-any q xs h))) (λ h. any-of q xs (back q (of-any q ns h))))

-- 8. How many names there are in order

or-right : (a b : Bool) → (a || b) ≡ false → b ≡ false
or-right false b h = h
or-right true b h = true-false refl h

length-there : (n : List ℕ) (ns : List (List ℕ)) → Rises ns → list_any (bytes_eq n) ns ≡ true → length (with_name n ns) ≡ length ns
unfolding IsStrictlySortedBy
length-there n [] rises h = true-false h refl
length-there n (m ∷ ms) rises h =
    elim (byte_order n m) as (λ o. byte_order n m ≡ o → length (by_order o (n ∷ m ∷ ms) (m ∷ ms) (m ∷ with_name n ms)) ≡ suc (length ms)) [
      | Less ↦ λ e. true-false h (not-in n m ms e rises.0)
      | Equal ↦ λ e. refl
      | Greater ↦ λ e. ap suc (length-there n ms rises.1 (sym (ap (λ b. b || list_any (bytes_eq n) ms) (texts_ties n m ∙ ap is_eq e)) ∙ h))
    ] refl

length-new : (n : List ℕ) (ns : List (List ℕ)) → list_any (bytes_eq n) ns ≡ false → length (with_name n ns) ≡ suc (length ns)
length-new n [] h = refl
length-new n (m ∷ ms) h =
    elim (byte_order n m) as (λ o. byte_order n m ≡ o → length (by_order o (n ∷ m ∷ ms) (m ∷ ms) (m ∷ with_name n ms)) ≡ suc (suc (length ms))) [
      | Less ↦ λ e. refl
      | Equal ↦ λ e. true-false (ap (λ b. b || list_any (bytes_eq n) ms) (texts_ties n m ∙ ap is_eq e)) h
      | Greater ↦ λ e. ap suc (length-new n ms (or-right (bytes_eq n m) _ h))
    ] refl

-- what a name before others adds, where it is among them and where it is not
counted : (n : List ℕ) (ns : List (List ℕ)) (b : Bool) → list_any (bytes_eq n) ns ≡ b → length (in_order (n ∷ ns)) ≡ cond b (length (in_order ns)) (suc (length (in_order ns)))
counted n ns true h = length-there n (in_order ns) (rises-in_order ns) (any-in_order n ns ∙ h)
counted n ns false h = length-new n (in_order ns) (any-in_order n ns ∙ h)

pub no-more : (ns : List (List ℕ)) → length (in_order ns) ≤ length ns
no-more [] = omega arith
no-more (n ∷ ns) = elim (list_any (bytes_eq n) ns) as (λ b. list_any (bytes_eq n) ns ≡ b → length (in_order (n ∷ ns)) ≤ suc (length ns)) [
  | true ↦ λ e. omega (arith, counted n ns true e, no-more ns)
  | false ↦ λ e. omega (arith, counted n ns false e, no-more ns)
] refl

-- names are different where as many are in order, and only there
pub different-counted : (ns : List (List ℕ)) → MatchBool (are_different ns) (length (in_order ns) ≡ length ns) (length (in_order ns) < length ns)
different-counted [] = refl
different-counted (n ∷ ns) =
    elim (list_any (bytes_eq n) ns) as (λ b. list_any (bytes_eq n) ns ≡ b → MatchBool (not b && are_different ns) (length (in_order (n ∷ ns)) ≡ suc (length ns)) (length (in_order (n ∷ ns)) < suc (length ns))) [
      | true ↦ λ e. omega (arith, counted n ns true e, no-more ns)
      | false ↦ λ e. elim (are_different ns) as (λ d. MatchBool d (length (in_order ns) ≡ length ns) (length (in_order ns) < length ns) → MatchBool d (length (in_order (n ∷ ns)) ≡ suc (length ns)) (length (in_order (n ∷ ns)) < suc (length ns))) [
        | true ↦ λ h. counted n ns false e ∙ ap suc h
        | false ↦ λ h. omega (arith, counted n ns false e, h)
      ] (different-counted ns)
    ] refl
