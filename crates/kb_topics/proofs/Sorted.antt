-- Entries in order of their keys, after one was put, taken out or changed.
use Rattle.std.proofs.Common.{◌≡◌, ◌∙◌, ◌≤◌, ℕ, zero, suc, Bool, true, false, cond, List, [], ◌∷◌, length, Some, refl, ap, subst, arith}
use Rattle.std.specs.Prelude.{replicate, slice_get, slice_set}
use Rattle.std.specs.List.{AllByRecursion}
use Rattle.std.specs.List.Sorted.{IsStrictlySortedBy}
use Rattle.std.specs.declared.cmp.Ordering.{Ordering}
use Rattle.std.specs.declared.cmp.Ordering.TheVariants.{Less, Equal, Greater}
use Rattle.std.specs.Ordering.{match_ordering, ordering_reverse}
use Rattle.std.specs.Cmp.{IsTotalOrder}
use Rattle.std.specs.Map.{keys_of, lookup, remove_entry, set_value}
use Rattle.std.specs.BTreeMap.{insert_entry}

-- ---- keys

module _ {K X : Type 0} (P : K → Type 0) where
  keys_put_by : (e : K × X) (es : List (K × X)) (cmp : K → K → Ordering) (k : K) (v : X) (o : Ordering) → P k → AllByRecursion P (keys_of (e ∷ es)) → AllByRecursion P (keys_of (insert_entry cmp es k v)) → AllByRecursion P (keys_of (match_ordering {X = List (K × X)} o ((k, v) ∷ e ∷ es) ((e.0, v) ∷ es) (e ∷ insert_entry cmp es k v)))
  keys_put_by e es cmp k v Less is all more = (is, all)
  keys_put_by e es cmp k v Equal is all more = all
  keys_put_by e es cmp k v Greater is all more = (all.0, more)

  keys_put : (es : List (K × X)) (cmp : K → K → Ordering) (k : K) (v : X) → P k → AllByRecursion P (keys_of es) → AllByRecursion P (keys_of (insert_entry cmp es k v))
  keys_put [] cmp k v is all = (is, tt)
  keys_put (e ∷ es) cmp k v is all = keys_put_by e es cmp k v (cmp k e.0) is all (keys_put es cmp k v is all.1)

  keys_left_by : (e : K × X) (es : List (K × X)) (test : K → Bool) (b : Bool) → AllByRecursion P (keys_of (e ∷ es)) → AllByRecursion P (keys_of (remove_entry test es)) → AllByRecursion P (keys_of (cond {A = List (K × X)} b es (e ∷ remove_entry test es)))
  keys_left_by e es test true all more = all.1
  keys_left_by e es test false all more = (all.0, more)

  keys_left : (es : List (K × X)) (test : K → Bool) → AllByRecursion P (keys_of es) → AllByRecursion P (keys_of (remove_entry test es))
  keys_left [] test all = tt
  keys_left (e ∷ es) test all = keys_left_by e es test (test e.0) all (keys_left es test all.1)

later : {K : Type 0} {R : K → K → Ordering} → IsTotalOrder R → (k l : K) (ks : List K) → R k l ≡ Less → AllByRecursion (λ y. R l y ≡ Less) ks → AllByRecursion (λ y. R k y ≡ Less) ks
later o k l [] less all = tt
later o k l (y ∷ ys) less all = (o.trans k l y less all.0, later o k l ys less all.1)

module _ {K X : Type 0} {R : K → K → Ordering} (o : IsTotalOrder R) where
  put_by : (e : K × X) (es : List (K × X)) (k : K) (v : X) (r : Ordering) → R k e.0 ≡ r → AllByRecursion (λ y. R e.0 y ≡ Less) (keys_of es) → IsStrictlySortedBy R (keys_of es) → IsStrictlySortedBy R (keys_of (insert_entry R es k v)) → IsStrictlySortedBy R (keys_of (match_ordering {X = List (K × X)} r ((k, v) ∷ e ∷ es) ((e.0, v) ∷ es) (e ∷ insert_entry R es k v)))
  unfolding IsStrictlySortedBy
  put_by e es k v Less is first rest more = ((is, later o k e.0 (keys_of es) is first), (first, rest))
  put_by e es k v Equal is first rest more = (first, rest)
  put_by e es k v Greater is first rest more =
      let other : R e.0 k ≡ Less = o.antisymm e.0 k ∙ ap ordering_reverse is in
      (keys_put (λ y. R e.0 y ≡ Less) es R k v other first, more)

  pub sorted_put : (es : List (K × X)) (k : K) (v : X) → IsStrictlySortedBy R (keys_of es) → IsStrictlySortedBy R (keys_of (insert_entry R es k v))
  unfolding IsStrictlySortedBy
  sorted_put [] k v s = (tt, tt)
  sorted_put (e ∷ es) k v s = put_by e es k v (R k e.0) refl s.0 s.1 (sorted_put es k v s.1)

module _ {K X : Type 0} (R : K → K → Ordering) where
  left_by : (e : K × X) (es : List (K × X)) (test : K → Bool) (b : Bool) → AllByRecursion (λ y. R e.0 y ≡ Less) (keys_of es) → IsStrictlySortedBy R (keys_of es) → IsStrictlySortedBy R (keys_of (remove_entry test es)) → IsStrictlySortedBy R (keys_of (cond {A = List (K × X)} b es (e ∷ remove_entry test es)))
  unfolding IsStrictlySortedBy
  left_by e es test true first rest more = rest
  left_by e es test false first rest more = (keys_left (λ y. R e.0 y ≡ Less) es test first, more)

  pub sorted_left : (es : List (K × X)) (test : K → Bool) → IsStrictlySortedBy R (keys_of es) → IsStrictlySortedBy R (keys_of (remove_entry test es))
  unfolding IsStrictlySortedBy
  sorted_left [] test s = tt
  sorted_left (e ∷ es) test s = left_by e es test (test e.0) s.0 s.1 (sorted_left es test s.1)

set_keys_by : {K X : Type 0} (e : K × X) (es : List (K × X)) (test : K → Bool) (w : X) (b : Bool) → keys_of (set_value test es w) ≡ keys_of es → keys_of (cond {A = List (K × X)} b ((e.0, w) ∷ es) (e ∷ set_value test es w)) ≡ keys_of (e ∷ es)
set_keys_by e es test w true more = refl
set_keys_by e es test w false more = ap (λ ks. e.0 ∷ ks) more

pub keys_set : {K X : Type 0} (es : List (K × X)) (test : K → Bool) (w : X) → keys_of (set_value test es w) ≡ keys_of es
keys_set [] test w = refl
keys_set (e ∷ es) test w = set_keys_by e es test w (test e.0) (keys_set es test w)

-- ---- what each entry is, by its key and by its value

module _ {K X : Type 0} (Q : K → Type 0) (S : X → Type 0) where
  abbrev Both : List (K × X) → Type 0
  Both es = AllByRecursion (λ e. Q e.0 × S e.1) es

  both_put_by : (e : K × X) (es : List (K × X)) (cmp : K → K → Ordering) (k : K) (v : X) (o : Ordering) → Q k → S v → Both (e ∷ es) → Both (insert_entry cmp es k v) → Both (match_ordering {X = List (K × X)} o ((k, v) ∷ e ∷ es) ((e.0, v) ∷ es) (e ∷ insert_entry cmp es k v))
  both_put_by e es cmp k v Less q s all more = ((q, s), all)
  both_put_by e es cmp k v Equal q s all more = ((all.0.0, s), all.1)
  both_put_by e es cmp k v Greater q s all more = (all.0, more)

  pub both_put : (es : List (K × X)) (cmp : K → K → Ordering) (k : K) (v : X) → Q k → S v → Both es → Both (insert_entry cmp es k v)
  both_put [] cmp k v q s all = ((q, s), tt)
  both_put (e ∷ es) cmp k v q s all = both_put_by e es cmp k v (cmp k e.0) q s all (both_put es cmp k v q s all.1)

  both_left_by : (e : K × X) (es : List (K × X)) (test : K → Bool) (b : Bool) → Both (e ∷ es) → Both (remove_entry test es) → Both (cond {A = List (K × X)} b es (e ∷ remove_entry test es))
  both_left_by e es test true all more = all.1
  both_left_by e es test false all more = (all.0, more)

  pub both_left : (es : List (K × X)) (test : K → Bool) → Both es → Both (remove_entry test es)
  both_left [] test all = tt
  both_left (e ∷ es) test all = both_left_by e es test (test e.0) all (both_left es test all.1)

  both_set_by : (e : K × X) (es : List (K × X)) (test : K → Bool) (w : X) (b : Bool) → S w → Both (e ∷ es) → Both (set_value test es w) → Both (cond {A = List (K × X)} b ((e.0, w) ∷ es) (e ∷ set_value test es w))
  both_set_by e es test w true s all more = ((all.0.0, s), all.1)
  both_set_by e es test w false s all more = (all.0, more)

  pub both_set : (es : List (K × X)) (test : K → Bool) (w : X) → S w → Both es → Both (set_value test es w)
  both_set [] test w s all = tt
  both_set (e ∷ es) test w s all = both_set_by e es test w (test e.0) s all (both_set es test w s all.1)

  found_by : (e : K × X) (es : List (K × X)) (test : K → Bool) (v : X) (b : Bool) → Both (e ∷ es) → (lookup test es ≡ Some v → S v) → cond b (Some e.1) (lookup test es) ≡ Some v → S v
  found_by e es test v true all more f = subst S (let same : e.1 ≡ v = cc in same) all.0.1
  found_by e es test v false all more f = more f

  pub both_found : (es : List (K × X)) (test : K → Bool) (v : X) → Both es → lookup test es ≡ Some v → S v
  both_found [] test v all f = absurd cc
  both_found (e ∷ es) test v all f = found_by e es test v (test e.0) all (both_found es test v all.1) f

-- ---- how many there are

put_long_by : {K X : Type 0} (e : K × X) (es : List (K × X)) (cmp : K → K → Ordering) (k : K) (v : X) (o : Ordering) → length (insert_entry cmp es k v) ≤ suc (length es) → length (match_ordering {X = List (K × X)} o ((k, v) ∷ e ∷ es) ((e.0, v) ∷ es) (e ∷ insert_entry cmp es k v)) ≤ suc (suc (length es))
put_long_by e es cmp k v Less more = omega arith
put_long_by e es cmp k v Equal more = omega arith
put_long_by e es cmp k v Greater more = omega (arith, more)

pub put_long : {K X : Type 0} (es : List (K × X)) (cmp : K → K → Ordering) (k : K) (v : X) → length (insert_entry cmp es k v) ≤ suc (length es)
put_long [] cmp k v = omega arith
put_long (e ∷ es) cmp k v = put_long_by e es cmp k v (cmp k e.0) (put_long es cmp k v)

left_long_by : {K X : Type 0} (e : K × X) (es : List (K × X)) (test : K → Bool) (b : Bool) → length (remove_entry test es) ≤ length es → length (cond {A = List (K × X)} b es (e ∷ remove_entry test es)) ≤ suc (length es)
left_long_by e es test true more = omega arith
left_long_by e es test false more = omega (arith, more)

pub left_long : {K X : Type 0} (es : List (K × X)) (test : K → Bool) → length (remove_entry test es) ≤ length es
left_long [] test = omega arith
left_long (e ∷ es) test = left_long_by e es test (test e.0) (left_long es test)

set_long_by : {K X : Type 0} (e : K × X) (es : List (K × X)) (test : K → Bool) (w : X) (b : Bool) → length (set_value test es w) ≡ length es → length (cond {A = List (K × X)} b ((e.0, w) ∷ es) (e ∷ set_value test es w)) ≡ suc (length es)
set_long_by e es test w true more = refl
set_long_by e es test w false more = ap suc more

pub set_long : {K X : Type 0} (es : List (K × X)) (test : K → Bool) (w : X) → length (set_value test es w) ≡ length es
set_long [] test w = refl
set_long (e ∷ es) test w = set_long_by e es test w (test e.0) (set_long es test w)

-- ---- a list

module _ {A : Type 0} (P : A → Type 0) where
  pub all_replicate : (n : ℕ) (x : A) → P x → AllByRecursion P (replicate n x)
  all_replicate zero x is = tt
  all_replicate (suc n) x is = (is, all_replicate n x is)

  pub all_set : (xs : List A) (i : ℕ) (x : A) → P x → AllByRecursion P xs → AllByRecursion P (slice_set xs i x)
  all_set [] i x is all = tt
  all_set (y ∷ ys) zero x is all = (is, all.1)
  all_set (y ∷ ys) (suc i) x is all = (all.0, all_set ys i x is all.1)

  pub all_get : (xs : List A) (i : ℕ) (x : A) → AllByRecursion P xs → slice_get xs i ≡ Some x → P x
  all_get [] i x all e = absurd cc
  all_get (y ∷ ys) zero x all e = subst P (let same : y ≡ x = cc in same) all.0
  all_get (y ∷ ys) (suc i) x all e = all_get ys i x all.1 e
