-- The files of a log in order, where others come behind them.
use Rattle.std.proofs.Common.{◌≡◌, ◌∙◌, ◌<◌, ◌≤◌, ◌++◌, ◌∷◌, ◌⊎◌, [], ℕ, zero, suc, false, List, map, take, sym, ap, subst, refl, inl, inr, ⊎_elim, arith}
use Rattle.std.specs.Prelude.{nat_eq}
use Rattle.std.specs.FinMap.{empty}
use Rattle.std.specs.List.{AllByRecursion, Contains, IsDistinct}
use Rattle.std.specs.Ordering.{nat_cmp, is_lt, ordering_then, MatchOrdering}
use Rattle.std.specs.declared.cmp.Ordering.{Ordering}
use Rattle.std.specs.declared.cmp.Ordering.TheVariants.{Less, Equal, Greater}
use Rattle.std.proofs.lemmas.Bool.{false≢true}
use Rattle.std.proofs.lemmas.Cmp.{ranked}
use Rattle.std.proofs.lemmas.Map.Keys.{IsDistinct-tail}
use Rattle.std.proofs.lemmas.List.Sorted.{Contains-permutation, IsPermutation-sym}
use Rattle.kb_store.specs.Disk.{Files}
use Rattle.kb_segment_log.specs.Chain.{base_at, place_at, numbers_of, AreInOrder}
use Rattle.kb_segment_log.proofs.Opened.{distinct_moved, head_apart}
use Rattle.kb_segment_log.proofs.Remaining.{order_numbers, order_said}
use Rattle.kb_segment_log.proofs.Unique.{Rises, rises_from}
use Rattle.kb_loss.specs.Fronts.{IsFrontOf}
use Rattle.kb_loss.proofs.Fronts.{front_none, front_cons}

-- ---- numbers in a list

abbrev pub Has : List ℕ → ℕ → Type 0
Has [] n = ⊥
Has (m ∷ ms) n = (m ≡ n) ⊎ Has ms n

pub has_of : (ns : List ℕ) (n : ℕ) → Contains ns n → Has ns n
has_of [] n (k, l, e) = absurd (omega (arith, l))
has_of (m ∷ ns) n (zero, l, e) = inl e
has_of (m ∷ ns) n (suc k, l, e) = inr (has_of ns n (k, omega (arith, l), e))

pub contains_of : (ns : List ℕ) (n : ℕ) → Has ns n → Contains ns n
contains_of [] n mine = absurd mine
contains_of (m ∷ ns) n mine = ⊎_elim
    (λ (e : m ≡ n). (0, omega arith, e))
    (λ (rest : Has ns n). let at = contains_of ns n rest in (suc at.0, omega (arith, at.1), at.2))
    mine

-- no number stands twice
abbrev pub Once : List ℕ → Type 0
Once [] = Unit {0}
Once (n ∷ ns) = (Has ns n → ⊥) × Once ns

pub once_of : (ns : List ℕ) → IsDistinct nat_eq ns → Once ns
once_of [] d = tt
once_of (n ∷ ns) d = ((λ mine. head_apart n ns d (contains_of ns n mine)), once_of ns (IsDistinct-tail nat_eq n ns d))

pub has_behind : (xs ys : List ℕ) (n : ℕ) → Has ys n → Has (xs ++ ys) n
has_behind [] ys n mine = mine
has_behind (x ∷ xs) ys n mine = inr (has_behind xs ys n mine)

pub front_has : (xs ys : List ℕ) (m : ℕ) → Has xs m → Has (xs ++ ys) m
front_has [] ys m mine = absurd mine
front_has (x ∷ xs) ys m mine = ⊎_elim (λ (e : x ≡ m). inl e) (λ (rest : Has xs m). inr (front_has xs ys m rest)) mine

pub once_behind : (xs ys : List ℕ) → Once (xs ++ ys) → Once ys
once_behind [] ys o = o
once_behind (x ∷ xs) ys o = once_behind xs ys o.1

-- ---- in order

-- one file begins no later than another, and where they begin together its number is no higher
pub record Before (base : ℕ → ℕ) (n m : ℕ) : Type 0 where
  pub begins : base n ≤ base m
  pub number : base n ≡ base m → n ≤ m

abbrev pub Rising : (ℕ → ℕ) → List ℕ → Type 0
Rising base [] = Unit {0}
Rising base (n ∷ ns) = ((m : ℕ) → Has ns m → Before base n m) × Rising base ns

pub rising_behind : (base : ℕ → ℕ) (xs ys : List ℕ) → Rising base (xs ++ ys) → Rising base ys
rising_behind base [] ys r = r
rising_behind base (x ∷ xs) ys r = rising_behind base xs ys r.1

abbrev pub ResultOf : {A B : Type 0} → (A → B) → Type 0
ResultOf {A} {B} f = B

-- a file with the offset that its header says
abbrev pub Spot : Type 0
Spot = ResultOf (place_at empty)

-- what is not before another begins no earlier, and where they begin together its number is no lower
later : (a b c d : ℕ) → is_lt (ordering_then (nat_cmp c a) (nat_cmp d b)) ≡ false → (a ≤ c) × (a ≡ c → b ≤ d)
later a b c d e = by_base (nat_cmp c a) refl e
  where
    by_file : (r : Ordering) → nat_cmp d b ≡ r → is_lt r ≡ false → b ≤ d
    by_file Less same not = absurd (false≢true (sym not))
    by_file Equal same not = let e : d ≡ b = subst (λ (r : Ordering). MatchOrdering r (d < b) (d ≡ b) (b < d)) same (ranked d b (nat_cmp d b) refl) in omega (arith, e)
    by_file Greater same not = let l : b < d = subst (λ (r : Ordering). MatchOrdering r (d < b) (d ≡ b) (b < d)) same (ranked d b (nat_cmp d b) refl) in omega (arith, l)

    by_base : (r : Ordering) → nat_cmp c a ≡ r → is_lt (ordering_then r (nat_cmp d b)) ≡ false → (a ≤ c) × (a ≡ c → b ≤ d)
    by_base Less same not = absurd (false≢true (sym not))
    by_base Equal same not =
        let e : c ≡ a = subst (λ (r : Ordering). MatchOrdering r (c < a) (c ≡ a) (a < c)) same (ranked c a (nat_cmp c a) refl) in
        (omega (arith, e), λ _. by_file (nat_cmp d b) refl not)
    by_base Greater same not =
        let l : a < c = subst (λ (r : Ordering). MatchOrdering r (c < a) (c ≡ a) (a < c)) same (ranked c a (nat_cmp c a) refl) in
        (omega (arith, l), λ e. absurd (omega (arith, l, e)))

module _ (files : Files) where
  placed_base : (p : Spot) → place_at files p.file ≡ p → base_at files p.file ≡ p.base
  placed_base p e = ap (λ (x : Spot). x.base) e

  before_of : (p q : Spot) → place_at files p.file ≡ p → place_at files q.file ≡ q → is_lt (ordering_then (nat_cmp q.base p.base) (nat_cmp q.file p.file)) ≡ false → Before (base_at files) p.file q.file
  before_of p q ps qs not =
      let l = later p.base p.file q.base q.file not in
      let pb = placed_base p ps in
      let qb = placed_base q qs in
      record { begins = omega (arith, l.0, pb, qb); number = λ e. l.1 (sym pb ∙ e ∙ qb) }

  all_before : (p : Spot) (ps : List Spot) → place_at files p.file ≡ p → AllByRecursion (λ (q : Spot). is_lt (ordering_then (nat_cmp q.base p.base) (nat_cmp q.file p.file)) ≡ false) ps → AllByRecursion (λ (q : Spot). place_at files q.file ≡ q) ps
      → (m : ℕ) → Has (map (λ (q : Spot). q.file) ps) m → Before (base_at files) p.file m
  all_before p [] said far all m mine = absurd mine
  all_before p (q ∷ ps) said far all m mine = ⊎_elim
      (λ (e : q.file ≡ m). subst (λ (k : ℕ). Before (base_at files) p.file k) e (before_of p q said all.0 far.0))
      (λ (rest : Has (map (λ (q : Spot). q.file) ps) m). all_before p ps said far.1 all.1 m rest)
      mine

  rising_spots : (ps : List Spot) → Rises ps → AllByRecursion (λ (q : Spot). place_at files q.file ≡ q) ps → Rising (base_at files) (map (λ (q : Spot). q.file) ps)
  rising_spots [] r all = tt
  rising_spots (p ∷ ps) r all = (all_before p ps all.0 r.0 all.1, rising_spots ps r.1 all.1)

pub order_rises : (files : Files) (numbers : List ℕ) (order : List Spot) → AreInOrder files numbers order → Rising (base_at files) (numbers_of order)
order_rises files numbers order o = rising_spots files order (rises_from order o.sorted) (order_said files numbers order o)

pub order_once : (files : Files) (numbers : List ℕ) (order : List Spot) → AreInOrder files numbers order → IsDistinct nat_eq numbers → Once (numbers_of order)
order_once files numbers order o d = once_of (numbers_of order) (distinct_moved numbers (numbers_of order) (order_numbers files numbers order o) d)

pub order_has : (files : Files) (numbers : List ℕ) (order : List Spot) → AreInOrder files numbers order → (n : ℕ) → Contains numbers n → Has (numbers_of order) n
order_has files numbers order o n mine = has_of (numbers_of order) n (Contains-permutation numbers (numbers_of order) n (order_numbers files numbers order o) mine)

pub has_order : (files : Files) (numbers : List ℕ) (order : List Spot) → AreInOrder files numbers order → (n : ℕ) → Has (numbers_of order) n → Contains numbers n
has_order files numbers order o n mine =
    Contains-permutation (numbers_of order) numbers n (IsPermutation-sym numbers (numbers_of order) (order_numbers files numbers order o)) (contains_of (numbers_of order) n mine)

-- the first so many of an order, and those behind them
pub taken_split : (n : ℕ) (order : List Spot) → (rest : List ℕ) × (numbers_of order ≡ map (λ (p : Spot). p.file) (take n order) ++ rest)
taken_split zero order = (numbers_of order, refl)
taken_split (suc n) [] = ([], refl)
taken_split (suc n) (p ∷ ps) = let more = taken_split n ps in (more.0, ap (λ ns. p.file ∷ ns) more.1)

pub rising_front : (base : ℕ → ℕ) (xs ys : List ℕ) → Rising base (xs ++ ys) → Rising base xs
rising_front base [] ys r = tt
rising_front base (x ∷ xs) ys r = ((λ m mine. r.0 m (front_has xs ys m mine)), rising_front base xs ys r.1)

pub once_front : (xs ys : List ℕ) → Once (xs ++ ys) → Once xs
once_front [] ys o = tt
once_front (x ∷ xs) ys o = ((λ mine. o.0 (front_has xs ys x mine)), once_front xs ys o.1)

-- ---- files that begin below an offset stand in front of all others

pub ordered_front : (base : ℕ → ℕ) (end : ℕ) (ks qs : List ℕ) → Rising base ks → Rising base qs → Once ks → Once qs → ((k : ℕ) → Has ks k → base k < end) → ((k : ℕ) → Has ks k → Has qs k) → ((q : ℕ) → Has qs q → Has ks q ⊎ (end ≤ base q)) → IsFrontOf ks qs
ordered_front base end [] qs rk rq ok oq low has only = front_none [] qs refl
ordered_front base end (k ∷ ks) [] rk rq ok oq low has only = absurd (has k (inl refl))
ordered_front base end (k ∷ ks) (q ∷ qs) rk rq ok oq low has only =
    subst (λ (z : ℕ). IsFrontOf (k ∷ ks) (z ∷ qs)) (sym same)
    (front_cons k ks qs (ordered_front base end ks qs rk.1 rq.1 ok.1 oq.1 (λ m mine. low m (inr mine))
    (λ m mine. ⊎_elim (λ (e : q ≡ m). absurd (ok.0 (subst (Has ks) (sym e ∙ same) mine))) (λ (rest : Has qs m). rest) (has m (inr mine)))
    (λ p mine. ⊎_elim
    (λ (in_k : Has (k ∷ ks) p). ⊎_elim
    (λ (e : k ≡ p). absurd (oq.0 (subst (Has qs) (sym e ∙ sym same) mine)))
    (λ (rest : Has ks p). inl rest)
    in_k)
    (λ (far : end ≤ base p). inr far)
    (only p (inr mine)))))
  where
    both : Before base q k → Before base k q → q ≡ k
    both a b =
        let even : base q ≡ base k = omega (arith, a.begins, b.begins) in
        omega (arith, a.number even, b.number (sym even))

    same : q ≡ k
    same = ⊎_elim
        (λ (e : q ≡ k). e)
        (λ (behind : Has qs k). ⊎_elim
        (λ (in_k : Has (k ∷ ks) q). ⊎_elim
        (λ (e : k ≡ q). sym e)
        (λ (rest : Has ks q). both (rq.0 k behind) (rk.0 q rest))
        in_k)
        (λ (far : end ≤ base q). absurd (omega (arith, far, low k (inl refl), (rq.0 k behind).begins)))
        (only q (inl refl)))
        (has k (inl refl))

pub rising_moved : (base base' : ℕ → ℕ) (ns : List ℕ) → ((n : ℕ) → Has ns n → base' n ≡ base n) → Rising base ns → Rising base' ns
rising_moved base base' [] same r = tt
rising_moved base base' (n ∷ ns) same r = (
  (λ m mine.
      let was = r.0 m mine in
      let one = same n (inl refl) in
      let two = same m (inr mine) in
      record { begins = omega (arith, was.begins, one, two); number = λ e. was.number (sym one ∙ e ∙ two) }),
  rising_moved base base' ns (λ m mine. same m (inr mine)) r.1,
)
