-- A list that was sorted by number is the list by rising number.
use Rattle.std.proofs.Common.{◌≡◌, ℕ, suc, ◌+◌, ◌<◌, ◌≤◌, List, [], ◌∷◌, eqb, Bool, true, false, Option, Some, None, refl, sym, ◌∙◌, ap, subst, inl, inr, arith}
use Rattle.std.specs.Prelude.{map, cond, nat_lt, ⊤, count_by}
use Rattle.std.specs.List.{AllByRecursion}
use Rattle.std.specs.List.Sorted.{IsPermutation, IsNonDecreasingBy}
use Rattle.std.proofs.lemmas.Bool.{cases_order}
use Rattle.std.proofs.lemmas.Bool.Decides.{nat_tests}
use Rattle.std.proofs.lemmas.List.Elements.{All-from_recursion, recursion_from_All}
use Rattle.std.proofs.lemmas.List.Sums.{sum_by-cons}
use Rattle.std.proofs.lemmas.List.Sorted.{IsPermutation-refl, IsPermutation-sym, IsPermutation-trans, IsPermutation-cons, IsPermutation-middle, IsPermutation-map, All-permutation, sum_by-IsPermutation}
use Rattle.kb_isolation_spec.specs.Machine.{Sent, place, by_number}

-- 1. Lists of numbers that do not fall

abbrev pub AreUp : ℕ → List ℕ → Type 0
AreUp low [] = ⊤
AreUp low (x ∷ xs) = (low ≤ x) × AreUp x xs

abbrev pub AreRising : ℕ → List ℕ → Type 0
AreRising low [] = ⊤
AreRising low (x ∷ xs) = (low < x) × AreRising x xs

pub up-rising : (low : ℕ) (xs : List ℕ) → AreRising low xs → AreUp low xs
up-rising low [] r = tt
up-rising low (x ∷ xs) r = (let lt = r.0 in omega arith, up-rising x xs r.1)

-- how often a number stands in a list

abbrev many : ℕ → List ℕ → ℕ
many n [] = 0
many n (x ∷ xs) = cond (eqb x n) 1 0 + many n xs

many-count : (n : ℕ) (xs : List ℕ) → count_by (λ x. eqb x n) xs ≡ many n xs
many-count n [] = refl
many-count n (x ∷ xs) = sum_by-cons (λ y. cond (eqb y n) 1 0) x xs ∙ ap (λ k. cond (eqb x n) 1 0 + k) (many-count n xs)

many-permutation : (n : ℕ) (xs ys : List ℕ) → IsPermutation xs ys → many n ys ≡ many n xs
many-permutation n xs ys p = sym (many-count n ys) ∙ (sum_by-IsPermutation (λ y. cond (eqb y n) 1 0) xs ys p ∙ many-count n xs)

many-below : (n low : ℕ) (xs : List ℕ) → n < low → AreUp low xs → many n xs ≡ 0
many-below n low [] h u = refl
many-below n low (x ∷ xs) h u =
    let le = u.0 in
    let rest = many-below n x xs (omega arith) u.1 in
    let ne : eqb x n ≡ false = grind (arith, nat_tests) in
    rw (ne, rest) refl

many-here : (x : ℕ) (xs : List ℕ) → 0 < many x (x ∷ xs)
many-here x xs = let same : eqb x x ≡ true = grind (arith, nat_tests) in rw same (omega arith)

-- two with the same numbers are the same
same-up : (low low' : ℕ) (xs ys : List ℕ) → AreUp low xs → AreUp low' ys → ((n : ℕ) → many n ys ≡ many n xs) → xs ≡ ys
same-up low low' [] [] u v h = refl
same-up low low' [] (y ∷ ys) u v h = absurd (omega (arith, h y, many-here y ys))
same-up low low' (x ∷ xs) [] u v h = absurd (omega (arith, h x, many-here x xs))
same-up low low' (x ∷ xs) (y ∷ ys) u v h = elim (cases_order x y) [
  | inl e ↦ same-cons x y xs ys e (same-up x y xs ys u.1 v.1 (λ n. let k : many n (y ∷ ys) ≡ many n (x ∷ xs) = h n in many-tail n x y xs ys e k))
  | inr r ↦ elim r [
    | inl lt ↦ absurd (omega (arith, h x, many-here x xs, many-below x y (y ∷ ys) lt (omega arith, v.1)))
    | inr lt ↦ absurd (omega (arith, h y, many-here y ys, many-below y x (x ∷ xs) lt (omega arith, u.1)))
  ]
]
  where
    same-cons : (x y : ℕ) (xs ys : List ℕ) → x ≡ y → xs ≡ ys → x ∷ xs ≡ y ∷ ys
    same-cons x y xs ys e r = cc

    many-tail : (n x y : ℕ) (xs ys : List ℕ) → x ≡ y → many n (y ∷ ys) ≡ many n (x ∷ xs) → many n ys ≡ many n xs
    many-tail n x y xs ys e k = let same : many n (x ∷ ys) ≡ many n (x ∷ xs) = subst (λ z. many n (z ∷ ys) ≡ many n (x ∷ xs)) (sym e) k in omega arith

pub same-numbers : (xs ys : List ℕ) → AreRising 0 xs → AreUp 0 ys → IsPermutation xs ys → ys ≡ xs
same-numbers xs ys r u p = sym (same-up 0 0 xs ys (up-rising 0 xs r) u (λ n. many-permutation n xs ys p))

-- 2. Lists by number

abbrev pub numbered : List Sent → List ℕ
numbered ss = map (λ (s : Sent). s.number) ss

up-place : (low : ℕ) (s : Sent) (xs : List Sent) → low ≤ s.number → AreUp low (numbered xs) → AreUp low (numbered (place s xs))
up-place low s [] h u = (h, tt)
up-place low s (x ∷ xs) h u = up-place_by low s x xs (nat_lt s.number x.number) refl h u (λ k. up-place x.number s xs k u.1)
  where
    up-place_by : (low : ℕ) (s x : Sent) (xs : List Sent) (b : Bool) → nat_lt s.number x.number ≡ b → low ≤ s.number → AreUp low (numbered (x ∷ xs)) → (x.number ≤ s.number → AreUp x.number (numbered (place s xs))) → AreUp low (numbered (cond b (s ∷ x ∷ xs) (x ∷ place s xs)))
    up-place_by low s x xs true e h u rest = (h, (grind (arith, nat_tests), u.1))
    up-place_by low s x xs false e h u rest = (u.0, rest (grind (arith, nat_tests)))

up-by_number : (ss : List Sent) → AreUp 0 (numbered (by_number ss))
up-by_number [] = tt
up-by_number (s ∷ ss) = up-place 0 s (by_number ss) (omega arith) (up-by_number ss)

permutation-place : (s : Sent) (xs : List Sent) → IsPermutation (s ∷ xs) (place s xs)
permutation-place s [] = IsPermutation-refl (s ∷ [])
permutation-place s (x ∷ xs) = by s x xs (place s xs) (nat_lt s.number x.number) (permutation-place s xs)
  where
    by : (s x : Sent) (xs ys : List Sent) (b : Bool) → IsPermutation (s ∷ xs) ys → IsPermutation (s ∷ x ∷ xs) (cond b (s ∷ x ∷ xs) (x ∷ ys))
    by s x xs ys true p = IsPermutation-refl (s ∷ x ∷ xs)
    by s x xs ys false p = IsPermutation-trans (s ∷ x ∷ xs) (x ∷ s ∷ xs) (x ∷ ys) (IsPermutation-middle (s ∷ []) x xs) (IsPermutation-cons x (s ∷ xs) ys p)

permutation-by_number : (ss : List Sent) → IsPermutation ss (by_number ss)
permutation-by_number [] = IsPermutation-refl []
permutation-by_number (s ∷ ss) = IsPermutation-trans (s ∷ ss) (s ∷ by_number ss) (by_number (s ∷ ss)) (IsPermutation-cons s ss (by_number ss) (permutation-by_number ss)) (permutation-place s (by_number ss))

-- 3. Two lists of the same numbers

abbrev find_sent : ℕ → List Sent → Option Sent
find_sent n [] = None
find_sent n (s ∷ ss) = cond (eqb s.number n) (Some s) (find_sent n ss)

found-behind : (low : ℕ) (k : Sent) (all ss : List Sent) → AreRising low (numbered ss) → k.number ≤ low → AllByRecursion (λ s. find_sent s.number all ≡ Some s) ss → AllByRecursion (λ s. find_sent s.number (k ∷ all) ≡ Some s) ss
found-behind low k all [] r h f = tt
found-behind low k all (s ∷ ss) r h f =
    let lt = r.0 in
    let ne : eqb k.number s.number ≡ false = grind (arith, nat_tests) in
    (rw ne f.0, found-behind s.number k all ss r.1 (omega arith) f.1)

found : (low : ℕ) (ss : List Sent) → AreRising low (numbered ss) → AllByRecursion (λ s. find_sent s.number ss ≡ Some s) ss
found low [] r = tt
found low (s ∷ ss) r =
    let same : eqb s.number s.number ≡ true = grind (arith, nat_tests) in
    (rw same refl, found-behind s.number s ss ss r.1 (omega arith) (found s.number ss r.1))

found-tail : (low : ℕ) (k : Sent) (all ss : List Sent) → AreRising low (numbered ss) → k.number ≤ low → AllByRecursion (λ s. find_sent s.number (k ∷ all) ≡ Some s) ss → AllByRecursion (λ s. find_sent s.number all ≡ Some s) ss
found-tail low k all [] r h f = tt
found-tail low k all (s ∷ ss) r h f =
    let lt = r.0 in
    let ne : eqb k.number s.number ≡ false = grind (arith, nat_tests) in
    (rw ne at f.0, found-tail s.number k all ss r.1 (omega arith) f.1)

same-found : (low : ℕ) (xs ys : List Sent) → numbered xs ≡ numbered ys → AreRising low (numbered ys) → AllByRecursion (λ s. find_sent s.number xs ≡ Some s) ys → xs ≡ ys
same-found low [] [] e r f = refl
same-found low [] (y ∷ ys) e r f = absurd (cc)
same-found low (x ∷ xs) [] e r f = absurd (cc)
same-found low (x ∷ xs) (y ∷ ys) e r f =
    let n : x.number ≡ y.number = cc in
    let rest : numbered xs ≡ numbered ys = cc in
    let same : eqb x.number y.number ≡ true = grind (arith, nat_tests) in
    let here : Some x ≡ Some y = rw same at f.0 in
    let more : xs ≡ ys = same-found y.number xs ys rest r.1 (found-tail y.number x xs ys r.1 (omega arith) f.1) in
    cc

-- what a sort by number leaves of a list whose numbers are those
pub record IsOrdered (all : List ℕ) (ss sorted : List Sent) : Type 0 where
  pub numbers : numbered sorted ≡ all
  pub ordered : sorted ≡ by_number ss

pub ordered : (all : List ℕ) (ss sorted : List Sent) → AreRising 0 all → IsPermutation all (numbered ss) → IsPermutation ss sorted → AreUp 0 (numbered sorted) → IsOrdered all ss sorted
ordered all ss sorted r p q u =
    let n : Sent → ℕ = λ s. s.number in
    let t = by_number ss in
    let a : numbered sorted ≡ all = same-numbers all (numbered sorted) r u (IsPermutation-trans all (numbered ss) (numbered sorted) p (IsPermutation-map n ss sorted q)) in
    let b : numbered t ≡ all = same-numbers all (numbered t) r (up-by_number ss) (IsPermutation-trans all (numbered ss) (numbered t) p (IsPermutation-map n ss t (permutation-by_number ss))) in
    let rt : AreRising 0 (numbered t) = subst (AreRising 0) (sym b) r in
    let rs : AreRising 0 (numbered sorted) = subst (AreRising 0) (sym a) r in
    let f = recursion_from_All (λ s. find_sent s.number sorted ≡ Some s) t
    (All-permutation (λ s. find_sent s.number sorted ≡ Some s) sorted t (IsPermutation-trans sorted ss t (IsPermutation-sym ss sorted q) (permutation-by_number ss)) (All-from_recursion (λ s. find_sent s.number sorted ≡ Some s) sorted (found 0 sorted rs))) in
    record { numbers = a; ordered = same-found 0 sorted t (a ∙ sym b) rt f }

-- a sort by a number never falls
up-tail : {X : Type 0} (n : X → ℕ) (x : X) (xs : List X) → IsNonDecreasingBy n (x ∷ xs) → IsNonDecreasingBy n xs
up-tail n x xs h = λ i j d le lt. h (suc i) (suc j) d (omega arith) (omega arith)

pub up-sorted : {X : Type 0} (n : X → ℕ) (low : ℕ) (xs : List X) → IsNonDecreasingBy n xs → ((d : X) → low ≤ n d) → AreUp low (map n xs)
up-sorted n low [] h l = tt
up-sorted n low (x ∷ xs) h l = (l x, up-above n x xs h)
  where
    up-above : {X : Type 0} (n : X → ℕ) (x : X) (xs : List X) → IsNonDecreasingBy n (x ∷ xs) → AreUp (n x) (map n xs)
    up-above n x [] h = tt
    up-above n x (y ∷ ys) h = (h 0 1 x (omega arith) (omega arith), up-above n y ys (up-tail n x (y ∷ ys) h))
