-- The numbers of two maps, and those that pass tests, are one list where they are the same numbers.
use Rattle.std.proofs.Common.{◌≡◌, ◌∙◌, ◌⊎◌, ◌<◌, ◌&&◌, inl, inr, ⊎_elim, ℕ, zero, suc, Bool, true, false, T, List, [], ◌∷◌, map, refl, sym, ap, subst, arith, eqb-true}
use Rattle.std.specs.Prelude.{filter, IsSome}
use Rattle.std.specs.FinMap.{FinMap, get, keys, entries, entries_sorted, contains_key-keys}
use Rattle.std.specs.FinMap.Entries.{is_sorted, below_all}
use Rattle.std.specs.List.{AllByRecursion, Contains}
use Rattle.std.specs.List.Sorted.{IsStrictlySortedBy}
use Rattle.std.specs.Ordering.{nat_cmp, is_lt}
use Rattle.std.specs.Cmp.{nat_cmp_total, unsigned_tied, eq_by_cmp_equiv}
use Rattle.std.specs.declared.cmp.Ordering.{Ordering}
use Rattle.std.specs.declared.cmp.Ordering.TheVariants.{Less, Equal, Greater}
use Rattle.std.proofs.lemmas.List.Kept.{IsStrictlySortedBy-filter}
use Rattle.std.proofs.lemmas.Map.Keys.{below_from_sorted, sorted_tail}
use Rattle.std.proofs.lemmas.Map.Views.{Contains-from_any, list_any-from_Contains}
use Rattle.kb_restart.proofs.Read.{in_filter, of_filter}

-- ---- rising numbers

in_front : (x : ℕ) (xs : List ℕ) → Contains (x ∷ xs) x
in_front x xs = (zero, omega arith, refl)

behind_cons : (x n : ℕ) (xs : List ℕ) → Contains xs n → Contains (x ∷ xs) n
behind_cons x n xs (k, l, e) = (suc k, omega (arith, l), e)

in_cons : (x n : ℕ) (xs : List ℕ) → Contains (x ∷ xs) n → (x ≡ n) ⊎ Contains xs n
in_cons x n xs (zero, l, e) = inl e
in_cons x n xs (suc k, l, e) = inr (k, omega (arith, l), e)

-- what stands behind the first of them is above it
above : (x n : ℕ) (xs : List ℕ) → IsStrictlySortedBy nat_cmp (x ∷ xs) → Contains xs n → x < n
above x n xs s (k, l, e) = subst (λ m. x < m) e (below_from_sorted (x ∷ xs) 0 (suc k) n s (omega arith) (omega (arith, l)))

same_rising : (xs ys : List ℕ) → IsStrictlySortedBy nat_cmp xs → IsStrictlySortedBy nat_cmp ys → ((n : ℕ) → Contains xs n → Contains ys n) → ((n : ℕ) → Contains ys n → Contains xs n) → xs ≡ ys
same_rising [] [] s r to from = refl
same_rising [] (y ∷ ys) s r to from = let no = from y (in_front y ys) in absurd (omega (arith, no.1))
same_rising (x ∷ xs) [] s r to from = let no = to x (in_front x xs) in absurd (omega (arith, no.1))
same_rising (x ∷ xs) (y ∷ ys) s r to from =
    let first : x ≡ y = ⊎_elim (λ (e : y ≡ x). sym e)
    (λ (c : Contains ys x). ⊎_elim (λ (e : x ≡ y). e) (λ (d : Contains xs y). absurd (omega (arith, above y x ys r c, above x y xs s d))) (in_cons x y xs (from y (in_front y ys))))
    (in_cons y x ys (to x (in_front x xs))) in
    let rest : xs ≡ ys = same_rising xs ys (sorted_tail nat_cmp x xs s) (sorted_tail nat_cmp y ys r)
    (λ n c. ⊎_elim (λ (e : y ≡ n). absurd (omega (arith, first, e, above x n xs s c))) (λ (d : Contains ys n). d) (in_cons y n ys (to n (behind_cons x n xs c))))
    (λ n c. ⊎_elim (λ (e : x ≡ n). absurd (omega (arith, first, e, above y n ys r c))) (λ (d : Contains xs n). d) (in_cons x n xs (from n (behind_cons y n ys c)))) in
    ap (λ z. z ∷ xs) first ∙ ap (λ zs. y ∷ zs) rest

-- ---- the numbers of a map

first_of : (a b : Bool) → T (a && b) → T a
first_of true b h = tt
first_of false b h = absurd h

second_of : (a b : Bool) → T (a && b) → T b
second_of true b h = h
second_of false b h = absurd h

is_less : (r : Ordering) → T (is_lt r) → r ≡ Less
is_less Less h = refl
is_less Equal h = absurd h
is_less Greater h = absurd h

module _ {X : Type 0} where
  below_keys : (x : ℕ) (es : List (ℕ × X)) → T (below_all nat_cmp x es) → AllByRecursion (λ y. nat_cmp x y ≡ Less) (map (λ e. e.0) es)
  below_keys x [] h = tt
  below_keys x (e ∷ es) h =
      (is_less (nat_cmp x e.0) (first_of (is_lt (nat_cmp x e.0)) (below_all nat_cmp x es) h), below_keys x es (second_of (is_lt (nat_cmp x e.0)) (below_all nat_cmp x es) h))

  rising : (es : List (ℕ × X)) → T (is_sorted nat_cmp es) → IsStrictlySortedBy nat_cmp (map (λ e. e.0) es)
  unfolding IsStrictlySortedBy
  rising [] h = tt
  rising (e ∷ es) h = (below_keys e.0 es (first_of (below_all nat_cmp e.0 es) (is_sorted nat_cmp es) h), rising es (second_of (below_all nat_cmp e.0 es) (is_sorted nat_cmp es) h))

  pub key_there : (t : FinMap nat_cmp X) (n : ℕ) → Contains (keys t) n → IsSome (get t n)
  key_there t n has = contains_key-keys t n ∙ list_any-from_Contains (eq_by_cmp_equiv nat_cmp_total) n (keys t) has

  there_key : (t : FinMap nat_cmp X) (n : ℕ) → IsSome (get t n) → Contains (keys t) n
  there_key t n there = Contains-from_any (λ x y e. eqb-true x y (sym (unsigned_tied x y) ∙ e)) n (keys t) (sym (contains_key-keys t n) ∙ there)

module _ {X Y : Type 0} where
  keys_over : (t : FinMap nat_cmp X) (u : FinMap nat_cmp Y) → ((n : ℕ) → IsSome (get t n) → IsSome (get u n)) → (n : ℕ) → Contains (keys t) n → Contains (keys u) n
  keys_over t u over n has = there_key u n (over n (key_there t n has))

  passed_over : (t : FinMap nat_cmp X) (u : FinMap nat_cmp Y) (p q : ℕ → Bool) → ((n : ℕ) → IsSome (get t n) → p n ≡ true → IsSome (get u n) × (q n ≡ true)) → (n : ℕ) → Contains (filter p (keys t)) n → Contains (filter q (keys u)) n
  passed_over t u p q over n has =
      let was = of_filter p (keys t) n has in
      let is = over n (key_there t n was.0) was.1 in
      in_filter q (keys u) n (there_key u n is.0) is.1

module _ {X Y : Type 0} (t : FinMap nat_cmp X) (u : FinMap nat_cmp Y) where
  pub same_keys : ((n : ℕ) → IsSome (get t n) → IsSome (get u n)) → ((n : ℕ) → IsSome (get u n) → IsSome (get t n)) → keys t ≡ keys u
  same_keys over back =
      same_rising (keys t) (keys u) (rising (entries t) (entries_sorted t)) (rising (entries u) (entries_sorted u)) (keys_over t u over) (keys_over u t back)

  -- where each number that passes in one of two maps passes in the other
  pub same_passed : (p q : ℕ → Bool) → ((n : ℕ) → IsSome (get t n) → p n ≡ true → IsSome (get u n) × (q n ≡ true)) → ((n : ℕ) → IsSome (get u n) → q n ≡ true → IsSome (get t n) × (p n ≡ true))
      → filter p (keys t) ≡ filter q (keys u)
  same_passed p q over back =
      same_rising (filter p (keys t)) (filter q (keys u))
      (IsStrictlySortedBy-filter nat_cmp p (keys t) (rising (entries t) (entries_sorted t))) (IsStrictlySortedBy-filter nat_cmp q (keys u) (rising (entries u) (entries_sorted u)))
      (passed_over t u p q over) (passed_over u t q p back)
