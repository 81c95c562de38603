-- What is found where a value was put at a place of a list, or under a key of a map.
use Rattle.std.proofs.Common.{◌≡◌, ◌∙◌, ◌⊎◌, ◌++◌, length, inl, inr, ⊎_elim, ℕ, zero, suc, Bool, true, false, cond, List, [], ◌∷◌, Option, Some, None, refl, sym, ap, subst, arith, eqb-true, eq-eqb}
use Rattle.std.specs.Prelude.{map, slice_get, slice_set, IsSome}
use Rattle.std.specs.Ordering.{nat_cmp}
use Rattle.std.specs.Cmp.{nat_cmp_total, unsigned_tied, eq_by_cmp_equiv}
use Rattle.std.specs.List.Sorted.{IsStrictlySortedBy}
use Rattle.std.specs.Map.{keys_of, lookup, set_value}
use Rattle.std.specs.BTreeMap.{is_at}
use Rattle.std.proofs.lemmas.Map.{lookup-none, lookup-set_value}
use Rattle.std.proofs.lemmas.Map.Entries.{none_past_head}
use Rattle.std.proofs.lemmas.Map.Keys.{IsDistinct-from_sorted, sorted_tail}

pub cases : (b : Bool) → (b ≡ true) ⊎ (b ≡ false)
cases true = inl refl
cases false = inr refl

pub same_number : (k i : ℕ) → is_at (nat_cmp k) i ≡ true → k ≡ i
same_number k i e = eqb-true k i (sym (unsigned_tied k i) ∙ e)

pub own_number : (k : ℕ) → is_at (nat_cmp k) k ≡ true
own_number k = unsigned_tied k k ∙ eq-eqb k k refl

pub other_number : (k i : ℕ) → is_at (nat_cmp k) i ≡ false → i ≡ k → ⊥
other_number k i e same = let yes : is_at (nat_cmp k) i ≡ true = subst (λ j. is_at (nat_cmp k) j ≡ true) (sym same) (own_number k) in cc

-- ---- an item at a place

pub get_put : {A : Type 0} (xs : List A) (p q : ℕ) (x y z : A) → slice_get xs p ≡ Some x → slice_get (slice_set xs p y) q ≡ Some z → ((q ≡ p) × (z ≡ y)) ⊎ ((q ≡ p → ⊥) × (slice_get xs q ≡ Some z))
get_put [] p q x y z a b = absurd cc
get_put (w ∷ ws) zero zero x y z a b = inl (refl, let e : y ≡ z = cc in sym e)
get_put (w ∷ ws) zero (suc q) x y z a b = inr (λ bad. omega (arith, bad), b)
get_put (w ∷ ws) (suc p) zero x y z a b = inr (λ bad. omega (arith, bad), b)
get_put (w ∷ ws) (suc p) (suc q) x y z a b =
    ⊎_elim (λ s. inl (ap suc s.0, s.1)) (λ o. inr (λ bad. o.0 (omega (arith, bad)), o.1)) (get_put ws p q x y z a b)

-- the item at a place is still there after another was put somewhere, or was the one that was put away
pub get_kept : {A : Type 0} (xs : List A) (p q : ℕ) (x y z : A) → slice_get xs p ≡ Some x → slice_get xs q ≡ Some z → (z ≡ x) ⊎ (slice_get (slice_set xs p y) q ≡ Some z)
get_kept [] p q x y z a b = absurd cc
get_kept (w ∷ ws) zero zero x y z a b = inl (let e : w ≡ x = cc in let f : w ≡ z = cc in sym f ∙ e)
get_kept (w ∷ ws) zero (suc q) x y z a b = inr b
get_kept (w ∷ ws) (suc p) zero x y z a b = inr b
get_kept (w ∷ ws) (suc p) (suc q) x y z a b = get_kept ws p q x y z a b

pub get_here : {A : Type 0} (xs : List A) (p : ℕ) (x y : A) → slice_get xs p ≡ Some x → slice_get (slice_set xs p y) p ≡ Some y
get_here [] p x y a = absurd cc
get_here (w ∷ ws) zero x y a = refl
get_here (w ∷ ws) (suc p) x y a = get_here ws p x y a

-- an item of a longer list is one of those before, or the last
pub get_either : {A : Type 0} (xs : List A) (x y : A) (p : ℕ) → slice_get (xs ++ x ∷ []) p ≡ Some y → (slice_get xs p ≡ Some y) ⊎ ((p ≡ length xs) × (y ≡ x))
get_either [] x y zero a = inr (refl, let e : x ≡ y = cc in sym e)
get_either [] x y (suc p) a = absurd cc
get_either (z ∷ zs) x y zero a = inl a
get_either (z ∷ zs) x y (suc p) a = ⊎_elim (λ h. inl h) (λ e. inr (ap suc e.0, e.1)) (get_either zs x y p a)

pub map_same : {A B : Type 0} (f g : A → B) (xs : List A) → ((q : ℕ) (x : A) → slice_get xs q ≡ Some x → g x ≡ f x) → map g xs ≡ map f xs
map_same f g [] h = refl
map_same f g (x ∷ xs) h =
    let here : g x ≡ f x = h 0 x refl in
    let rest = map_same f g xs (λ q y a. h (suc q) y a) in
    rw (here, rest) refl

pub map_put : {A B : Type 0} (f g : A → B) (xs : List A) (p : ℕ) (y : A) (z : B) → ((q : ℕ) (x : A) → slice_get xs q ≡ Some x → (q ≡ p → ⊥) → g x ≡ f x) → g y ≡ z → map g (slice_set xs p y) ≡ slice_set (map f xs) p z
map_put f g [] p y z h e = refl
map_put f g (x ∷ xs) zero y z h e =
    let rest = map_same f g xs (λ q w a. h (suc q) w a (λ bad. omega (arith, bad))) in
    rw (e, rest) refl
map_put f g (x ∷ xs) (suc p) y z h e =
    let here : g x ≡ f x = h 0 x refl (λ bad. omega (arith, bad)) in
    let rest = map_put f g xs p y z (λ q w a ne. h (suc q) w a (λ bad. ne (omega (arith, bad)))) e in
    rw (here, rest) refl

pub put_same : {A : Type 0} (xs : List A) (p : ℕ) (x : A) → slice_get xs p ≡ Some x → slice_set xs p x ≡ xs
put_same [] p x a = refl
put_same (y ∷ ys) zero x a = ap (λ z. z ∷ ys) (let e : y ≡ x = cc in sym e)
put_same (y ∷ ys) (suc p) x a = ap (λ zs. y ∷ zs) (put_same ys p x a)

-- ---- a value under a key

pub found_put : {A : Type 0} (es : List (ℕ × A)) (i j : ℕ) (t u : A) → lookup (is_at (nat_cmp i)) es ≡ Some t → lookup (is_at (nat_cmp j)) (set_value (is_at (nat_cmp i)) es u) ≡ cond (is_at (nat_cmp i) j) (Some u) (lookup (is_at (nat_cmp j)) es)
found_put {A} es i j t u a =
    let laws = eq_by_cmp_equiv nat_cmp_total in
    lookup-set_value laws (is_at (nat_cmp i)) (λ x y. laws.congr i x y) j u es (subst (λ (o : Option A). IsSome o) (sym a) refl)

pub lookup_put : {A : Type 0} (es : List (ℕ × A)) (i j : ℕ) (t u v : A) → lookup (is_at (nat_cmp i)) es ≡ Some t → lookup (is_at (nat_cmp j)) (set_value (is_at (nat_cmp i)) es u) ≡ Some v → ((j ≡ i) × (v ≡ u)) ⊎ ((j ≡ i → ⊥) × (lookup (is_at (nat_cmp j)) es ≡ Some v))
lookup_put {A} es i j t u v a b =
    let found = found_put es i j t u a in
    elim (cases (is_at (nat_cmp i) j)) [
      | inl e ↦
          let here : Some u ≡ Some v = sym (found ∙ ap (λ c. cond c (Some u) (lookup (is_at (nat_cmp j)) es)) e) ∙ b in
          inl (sym (same_number i j e), let same : u ≡ v = cc in sym same)
      | inr e ↦ inr (other_number i j e, sym (found ∙ ap (λ c. cond c (Some u) (lookup (is_at (nat_cmp j)) es)) e) ∙ b)
    ]

pub at_head : {A : Type 0} (e : ℕ × A) (es : List (ℕ × A)) → lookup (is_at (nat_cmp e.0)) (e ∷ es) ≡ Some e.1
at_head e es = ap (λ b. cond b (Some e.1) (lookup (is_at (nat_cmp e.0)) es)) (own_number e.0)

not_behind : {A : Type 0} (j : ℕ) (e : ℕ × A) (es : List (ℕ × A)) (v : A) → IsStrictlySortedBy nat_cmp (keys_of (e ∷ es)) → is_at (nat_cmp j) e.0 ≡ true → lookup (is_at (nat_cmp j)) es ≡ Some v → ⊥
not_behind j e es v s t l =
    let none : lookup (is_at (nat_cmp j)) es ≡ None = lookup-none _ es (none_past_head (eq_by_cmp_equiv nat_cmp_total) j e es (IsDistinct-from_sorted nat_cmp (keys_of (e ∷ es)) s) t) in cc

pub in_tail : {A : Type 0} (j : ℕ) (e : ℕ × A) (es : List (ℕ × A)) (v : A) → IsStrictlySortedBy nat_cmp (keys_of (e ∷ es)) → lookup (is_at (nat_cmp j)) es ≡ Some v → lookup (is_at (nat_cmp j)) (e ∷ es) ≡ Some v
in_tail j e es v s l =
    elim (cases (is_at (nat_cmp j) e.0)) [
      | inl t ↦ absurd (not_behind j e es v s t l)
      | inr t ↦ ap (λ b. cond b (Some e.1) (lookup (is_at (nat_cmp j)) es)) t ∙ l
    ]

-- the same keys, with other values
abbrev pub each_value : {A B : Type 0} → (A → B) → List (ℕ × A) → List (ℕ × B)
each_value {A} {B} f es = map {A = ℕ × A} {B = ℕ × B} (λ e. (e.0, f e.1)) es

one_more : {B : Type 0} (k : ℕ) (a b : B) (xs ys : List (ℕ × B)) → a ≡ b → xs ≡ ys → ◌≡◌ {A = List (ℕ × B)} ((k, a) ∷ xs) ((k, b) ∷ ys)
one_more k a b xs ys e f = λ i. (k, e i) ∷ f i

set_here : {X : Type 0} (test : ℕ → Bool) (e : ℕ × X) (es : List (ℕ × X)) (w : X) → test e.0 ≡ true → ◌≡◌ {A = List (ℕ × X)} (set_value test (e ∷ es) w) ((e.0, w) ∷ es)
set_here {X} test e es w t = ap (λ b. cond {A = List (ℕ × X)} b ((e.0, w) ∷ es) (e ∷ set_value test es w)) t

set_later : {X : Type 0} (test : ℕ → Bool) (e : ℕ × X) (es : List (ℕ × X)) (w : X) → test e.0 ≡ false → ◌≡◌ {A = List (ℕ × X)} (set_value test (e ∷ es) w) (e ∷ set_value test es w)
set_later {X} test e es w t = ap (λ b. cond {A = List (ℕ × X)} b ((e.0, w) ∷ es) (e ∷ set_value test es w)) t

pub values_same : {A B : Type 0} (f g : A → B) (es : List (ℕ × A)) → IsStrictlySortedBy nat_cmp (keys_of es) → ((j : ℕ) (v : A) → lookup (is_at (nat_cmp j)) es ≡ Some v → g v ≡ f v) → each_value g es ≡ each_value f es
values_same f g [] s h = refl
values_same f g (e ∷ es) s h =
    one_more e.0 (g e.1) (f e.1) (each_value g es) (each_value f es) (h e.0 e.1 (at_head e es))
    (values_same f g es (sorted_tail nat_cmp e.0 (keys_of es) s) (λ j v l. h j v (in_tail j e es v s l)))

pub values_put : {A B : Type 0} (f g : A → B) (es : List (ℕ × A)) (i : ℕ) (u : A) (z : B) → IsStrictlySortedBy nat_cmp (keys_of es) → ((j : ℕ) (v : A) → lookup (is_at (nat_cmp j)) es ≡ Some v → (j ≡ i → ⊥) → g v ≡ f v) → g u ≡ z
    → each_value g (set_value (is_at (nat_cmp i)) es u) ≡ set_value (is_at (nat_cmp i)) (each_value f es) z
values_put f g [] i u z s h same = refl
values_put {A} {B} f g (e ∷ es) i u z s h same =
    let test : ℕ → Bool = is_at (nat_cmp i) in
    let first : ℕ × B = (e.0, f e.1) in
    elim (cases (is_at (nat_cmp i) e.0)) [
      | inl t ↦
          let rest : each_value g es ≡ each_value f es = values_same f g es (sorted_tail nat_cmp e.0 (keys_of es) s) (λ j v l. h j v (in_tail j e es v s l) (λ bad. not_behind j e es v s (subst (λ k. is_at (nat_cmp k) e.0 ≡ true) (sym bad) t) l)) in
          ap (each_value g) (set_here {X = A} test e es u t) ∙ one_more e.0 (g u) z (each_value g es) (each_value f es) same rest ∙ sym (set_here {X = B} test first (each_value f es) z t)
      | inr t ↦
          let here : g e.1 ≡ f e.1 = h e.0 e.1 (at_head e es) (other_number i e.0 t) in
          let rest : each_value g (set_value test es u) ≡ set_value test (each_value f es) z = values_put f g es i u z (sorted_tail nat_cmp e.0 (keys_of es) s) (λ j v l. h j v (in_tail j e es v s l)) same in
          ap (each_value g) (set_later {X = A} test e es u t) ∙ one_more e.0 (g e.1) (f e.1) (each_value g (set_value test es u)) (set_value test (each_value f es) z) here rest ∙ sym (set_later {X = B} test first (each_value f es) z t)
    ]
