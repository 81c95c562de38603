-- What files are there once a copy was placed, and whose they are.
use Rattle.std.proofs.Common.{◌≡◌, ◌∙◌, ◌<◌, ◌++◌, ◌&&◌, ℕ, suc, Bool, true, false, T, List, [], ◌∷◌, length, map, ap, refl, sym, subst, arith, append-nil, append_assoc, add-one}
use Rattle.std.specs.Prelude.{unwrap_or}
use Rattle.std.specs.declared.cmp.Ordering.{Ordering}
use Rattle.std.specs.declared.cmp.Ordering.TheVariants.{Less, Equal, Greater}
use Rattle.std.specs.Ordering.{is_lt, nat_cmp, ordering_reverse}
use Rattle.std.specs.Cmp.{nat_cmp_is, nat_cmp_total}
use Rattle.std.specs.List.{All, AllByRecursion, range_with_len}
use Rattle.std.specs.List.Sorted.{IsStrictlySortedBy}
use Rattle.std.specs.FinMap.{FinMap, entries, entries-insert, entries_sorted, insert, keys}
use Rattle.std.specs.FinMap.Entries.{below_all, by_order, is_sorted, put}
use Rattle.std.proofs.lemmas.List.{map-append}
use Rattle.std.proofs.lemmas.List.Elements.{All-from_recursion}
use Rattle.kb_store.proofs.Maps.{get_inserted, get_other}
use Rattle.kb_store.specs.Disk.{Files}
use Rattle.kb_segment_log.specs.SegmentLog.{bytes_at}
use Rattle.kb_move.specs.Alike.{AreAlike, numbers_here, numbers_there}
use Rattle.kb_move.specs.Copied.{with_files_from}

-- ---- lists

all_both : {X : Type 0} (P Q R : X → Type 0) → ((x : X) → P x → Q x → R x) → (xs : List X) → AllByRecursion P xs → AllByRecursion Q xs → AllByRecursion R xs
all_both P Q R f [] p q = tt
all_both P Q R f (x ∷ xs) p q = (f x p.0 q.0, all_both P Q R f xs p.1 q.1)

pub all_so : {X : Type 0} (P R : X → Type 0) → ((x : X) → P x → R x) → (xs : List X) → AllByRecursion P xs → AllByRecursion R xs
all_so P R f xs p = all_both P P R (λ x a b. f x a) xs p p

all_behind : {X : Type 0} (P : X → Type 0) (xs ys : List X) → AllByRecursion P xs → AllByRecursion P ys → AllByRecursion P (xs ++ ys)
all_behind P [] ys p q = q
all_behind P (x ∷ xs) ys p q = (p.0, all_behind P xs ys p.1 q)

-- ---- the numbers of a map

first : (a b : Bool) → T (a && b) → a ≡ true
first true b h = refl
first false b h = absurd h

second : (a b : Bool) → T (a && b) → T b
second true b h = h
second false b h = absurd h

is_less : (r : Ordering) → is_lt r ≡ true → r ≡ Less
is_less Less e = refl
is_less Equal e = absurd cc
is_less Greater e = absurd cc

module _ {X : Type 0} where
  below_keys : (x : ℕ) (es : List (ℕ × X)) → T (below_all nat_cmp x es) → AllByRecursion (λ y. nat_cmp x y ≡ Less) (map (λ e. e.0) es)
  below_keys x [] h = tt
  below_keys x (e ∷ es) h = (is_less (nat_cmp x e.0) (first _ _ h), below_keys x es (second _ _ h))

  rising_keys : (es : List (ℕ × X)) → T (is_sorted nat_cmp es) → IsStrictlySortedBy nat_cmp (map (λ e. e.0) es)
  unfolding IsStrictlySortedBy
  rising_keys [] h = tt
  rising_keys (e ∷ es) h = (below_keys e.0 es (subst T (sym (first (below_all nat_cmp e.0 es) (is_sorted nat_cmp es) h)) tt), rising_keys es (second (below_all nat_cmp e.0 es) (is_sorted nat_cmp es) h))

  pub keys_rise : (m : FinMap nat_cmp X) → IsStrictlySortedBy nat_cmp (keys m)
  keys_rise m = rising_keys (entries m) (entries_sorted m)

  put_last : (k : ℕ) (v : X) (es : List (ℕ × X)) → AllByRecursion (λ n. n < k) (map (λ e. e.0) es) → put nat_cmp k v es ≡ es ++ (k, v) ∷ []
  put_last k v [] h = refl
  put_last k v (e ∷ es) h =
      ap (λ r. by_order r ((k, v) ∷ e ∷ es) ((e.0, v) ∷ es) (e ∷ put nat_cmp k v es)) (sym (nat_cmp_is k e.0 Greater h.0))
      ∙ ap (λ xs. e ∷ xs) (put_last k v es h.1)

  keys_last : (m : FinMap nat_cmp X) (k : ℕ) (v : X) → AllByRecursion (λ n. n < k) (keys m) → keys (insert m k v) ≡ keys m ++ k ∷ []
  keys_last m k v below =
      ap (map (λ e. e.0)) (entries-insert nat_cmp_total m k v ∙ put_last k v (entries m) below) ∙ map-append (λ e. e.0) (entries m) ((k, v) ∷ [])

-- ---- files that were placed

pub keys_placed : (bs : List (List ℕ)) (n : ℕ) (f : Files) → AllByRecursion (λ m. m < n) (keys f)
    → keys (with_files_from n bs f) ≡ keys f ++ range_with_len n (length bs)
unfolding with_files_from
keys_placed [] n f below = sym (append-nil (keys f))
keys_placed (b ∷ bs) n f below =
    let added : keys (insert f n b) ≡ keys f ++ n ∷ [] = keys_last f n b below in
    let under : AllByRecursion (λ m. m < suc n) (keys (insert f n b)) =
    subst (AllByRecursion (λ m. m < suc n)) (sym added)
    (all_behind (λ m. m < suc n) (keys f) (n ∷ []) (all_so (λ m. m < n) (λ m. m < suc n) (λ m lt. omega (arith, lt)) (keys f) below) (omega arith, tt)) in
    keys_placed bs (suc n) (insert f n b) under
    ∙ ap (λ ks. ks ++ range_with_len (suc n) (length bs)) added
    ∙ append_assoc (keys f) (n ∷ []) (range_with_len (suc n) (length bs))
    ∙ ap (λ m. keys f ++ n ∷ range_with_len m (length bs)) (sym (add-one n))

pub bytes_before : (bs : List (List ℕ)) (n m : ℕ) (f : Files) → m < n → bytes_at (with_files_from n bs f) m ≡ bytes_at f m
unfolding with_files_from
bytes_before [] n m f lt = refl
bytes_before (b ∷ bs) n m f lt =
    bytes_before bs (suc n) m (insert f n b) (omega (arith, lt))
    ∙ ap (λ o. unwrap_or o []) (get_other f n b m (λ (same : m ≡ n). absurd (omega (arith, lt, same))))

-- ---- pairs of numbers

-- each of some numbers beside the one under which it was placed
pub pairs : ℕ → List ℕ → List (ℕ × ℕ)
pairs n [] = []
pairs n (x ∷ xs) = (x, n) ∷ pairs (suc n) xs

pub pairs_here : (n : ℕ) (xs : List ℕ) → numbers_here (pairs n xs) ≡ xs
unfolding pairs
pairs_here n [] = refl
pairs_here n (x ∷ xs) = ap (λ ys. x ∷ ys) (pairs_here (suc n) xs)

pub pairs_there : (n : ℕ) (xs : List ℕ) → numbers_there (pairs n xs) ≡ range_with_len n (length xs)
unfolding pairs
pairs_there n [] = refl
pairs_there n (x ∷ xs) = ap (λ ys. n ∷ ys) (pairs_there (suc n) xs) ∙ ap (λ m. n ∷ range_with_len m (length xs)) (sym (add-one n))

bytes_alike : (bytes : ℕ → List ℕ) (n : ℕ) (xs : List ℕ) (f : Files)
    → AllByRecursion (λ p. bytes_at (with_files_from n (map bytes xs) f) p.1 ≡ bytes p.0) (pairs n xs)
unfolding pairs with_files_from
bytes_alike bytes n [] f = tt
bytes_alike bytes n (x ∷ xs) f = (
  bytes_before (map bytes xs) (suc n) n (insert f n (bytes x)) (omega arith) ∙ ap (λ o. unwrap_or o []) (get_inserted f n (bytes x)),
  bytes_alike bytes (suc n) xs (insert f n (bytes x)),
)

above_there : (n m : ℕ) (xs : List ℕ) → n < m → AllByRecursion (λ q. nat_cmp n q.1 ≡ Less) (pairs m xs)
unfolding pairs
above_there n m [] lt = tt
above_there n m (x ∷ xs) lt = (sym (nat_cmp_is n m Less lt), above_there n (suc m) xs (omega (arith, lt)))

above_here : (x m : ℕ) (xs : List ℕ) → AllByRecursion (λ y. nat_cmp x y ≡ Less) xs → AllByRecursion (λ q. nat_cmp x q.0 ≡ Less) (pairs m xs)
unfolding pairs
above_here x m [] h = tt
above_here x m (y ∷ ys) h = (h.0, above_here x (suc m) ys h.1)

greater : (a b : ℕ) → nat_cmp a b ≡ Less → nat_cmp b a ≡ Greater
greater a b e = nat_cmp_total.antisymm b a ∙ ap ordering_reverse e

order_alike : (n : ℕ) (xs : List ℕ) → IsStrictlySortedBy nat_cmp xs
    → AllByRecursion (λ p. AllByRecursion (λ q. nat_cmp p.1 q.1 ≡ nat_cmp p.0 q.0) (pairs n xs)) (pairs n xs)
unfolding pairs IsStrictlySortedBy
order_alike n [] h = tt
order_alike n (x ∷ xs) h =
    let rest = pairs (suc n) xs in
    let there = above_there n (suc n) xs (omega arith) in
    let here = above_here x (suc n) xs h.0 in
    let level : nat_cmp n n ≡ nat_cmp x x = sym (nat_cmp_is n n Equal refl) ∙ nat_cmp_is x x Equal refl in
    let behind = all_both (λ q. nat_cmp n q.1 ≡ Less) (λ q. nat_cmp x q.0 ≡ Less) (λ q. nat_cmp n q.1 ≡ nat_cmp x q.0) (λ q a b. a ∙ sym b) rest there here in
    let before = all_both (λ q. nat_cmp n q.1 ≡ Less) (λ q. nat_cmp x q.0 ≡ Less) (λ q. nat_cmp q.1 n ≡ nat_cmp q.0 x) (λ q a b. greater n q.1 a ∙ sym (greater x q.0 b)) rest there here in (
      (level, behind),
      all_both (λ q. nat_cmp q.1 n ≡ nat_cmp q.0 x) (λ p. AllByRecursion (λ q. nat_cmp p.1 q.1 ≡ nat_cmp p.0 q.0) rest)
          (λ p. AllByRecursion (λ q. nat_cmp p.1 q.1 ≡ nat_cmp p.0 q.0) ((x, n) ∷ rest)) (λ p a b. (a, b)) rest before (order_alike (suc n) xs h.1),
    )

pub placed_alike : (n : ℕ) (xs : List ℕ) (f g : Files) → IsStrictlySortedBy nat_cmp xs → AreAlike f (with_files_from n (map (bytes_at f) xs) g) (pairs n xs)
placed_alike n xs f g rise = record {
  bytes = All-from_recursion (λ p. bytes_at (with_files_from n (map (bytes_at f) xs) g) p.1 ≡ bytes_at f p.0) (pairs n xs) (bytes_alike (bytes_at f) n xs g);
  order = All-from_recursion (λ p. All (λ q. nat_cmp p.1 q.1 ≡ nat_cmp p.0 q.0) (pairs n xs)) (pairs n xs)
      (all_so (λ p. AllByRecursion (λ q. nat_cmp p.1 q.1 ≡ nat_cmp p.0 q.0) (pairs n xs)) (λ p. All (λ q. nat_cmp p.1 q.1 ≡ nat_cmp p.0 q.0) (pairs n xs))
      (λ p h. All-from_recursion (λ q. nat_cmp p.1 q.1 ≡ nat_cmp p.0 q.0) (pairs n xs) h) (pairs n xs) (order_alike n xs rise));
}
