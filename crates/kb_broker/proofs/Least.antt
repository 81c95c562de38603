-- The numbers of the connections that may take a turn, in a heap of which the least comes first.
use Rattle.std.proofs.Common.{◌≡◌, ◌≤◌, ℕ, List, ◌∷◌, map, Result, Ok, Err, Bool, true, false, OnOk, All, IsPermutation, nat_cmp}
use Rattle.std.specs.Bool.{OnTrue}
use Rattle.std.specs.BinaryHeap.{IsUpperBound, lt_by_cmp}
use Rattle.std.specs.Result.{is_ok}
use Rattle.std.specs.declared.cmp.Reverse.{Reverse}
use Rattle.std.proofs.HeapSift.{at_most}
use Rattle.std.proofs.lemmas.List.Elements.{All-from_recursion, All-map, All-weaker}
use Rattle.std.proofs.lemmas.List.Sorted.{IsPermutation-map}

-- what no number of a heap is above in the heap's order is above none
pub least-of : (x : Reverse ℕ) (xs : List (Reverse ℕ)) → IsUpperBound (λ (a b : Reverse ℕ). nat_cmp b.0 a.0) x xs → All (λ k. x.0 ≤ k) (map (λ (r : Reverse ℕ). r.0) xs)
least-of x xs bound = All-map (λ k. x.0 ≤ k) (λ (r : Reverse ℕ). r.0) xs (All-weaker (λ (y : Reverse ℕ). lt_by_cmp nat_cmp y.0 x.0 ≡ false) (λ (y : Reverse ℕ). x.0 ≤ y.0) (λ y h. at_most y.0 x.0 h) xs (All-from_recursion _ xs bound))

-- one more number
pub one-more : {E : Type 0} (r : Result (Unit {0}) E) (b : Bool) (x : Reverse ℕ) (xs ys : List (Reverse ℕ)) → b ≡ is_ok r → OnOk r (IsPermutation (x ∷ xs) ys) → OnTrue b (IsPermutation (x.0 ∷ map (λ (r : Reverse ℕ). r.0) xs) (map (λ (r : Reverse ℕ). r.0) ys))
one-more (Ok u) true x xs ys e h = IsPermutation-map (λ (r : Reverse ℕ). r.0) (x ∷ xs) ys h
one-more (Ok u) false x xs ys e h = tt
one-more (Err u) true x xs ys e h = absurd (let no : true ≡ false = e in cc)
one-more (Err u) false x xs ys e h = tt
