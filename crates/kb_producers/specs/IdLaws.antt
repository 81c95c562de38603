-- Laws of the ids that batches have.
use Rattle.std.specs.Prelude.{◌≡◌, ◌≤◌, ◌<◌, ◌<ℤ◌, ◌+◌, ◌++◌, ◌∷◌, [], ℕ, zero, suc, ℤ, pos, negsuc, List, Bool, true, false, Contains, length, filter, fold, map, max, not}
use Rattle.std.specs.List.{slice_index_or}
use Rattle.std.specs.Ordering.{int_eq}
use Rattle.std.proofs.Common.{◌∙◌, sym, ap, refl, arith, cond}
use Rattle.std.proofs.lemmas.Bool.Decides.{Decides-int_eq}
use Rattle.std.proofs.lemmas.Int.{ints}
use Rattle.std.proofs.lemmas.List.Elements.{All-contains}
use Rattle.kb_batch.specs.Header.{producer_id_of}
use Rattle.kb_producers.specs.declared.kept.Kept.{Kept}
use Rattle.kb_producers.specs.Batches.{is_idempotent, kept_all, kept_of}
use Rattle.kb_producers.specs.Ids.{behind, ids_kept, ids_of, least_above}

-- ---- the greatest of some numbers

-- from a number on
pub greatest_from : (a : ℕ) (ns : List ℕ) → fold max a ns ≡ max a (fold max 0 ns)
greatest_from a [] = omega arith
greatest_from a (n ∷ ns) =
    let here = greatest_from (max a n) ns in
    let rest = greatest_from (max 0 n) ns in
    omega (arith, here, rest)

-- ---- the least number above some ids

-- of one id more in front
pub least_above-cons : (id : ℤ) (ids : List ℤ) → least_above (id ∷ ids) ≡ max (behind id) (least_above ids)
least_above-cons id ids = let here = greatest_from (max 0 (behind id)) (map behind ids) in omega (arith, here)

pub least_above-append : (ids more : List ℤ) → least_above (ids ++ more) ≡ max (least_above ids) (least_above more)
least_above-append [] more = omega arith
least_above-append (id ∷ ids) more =
    let here = least_above-cons id (ids ++ more) in
    let one = least_above-cons id ids in
    let rest = least_above-append ids more in
    omega (arith, here, one, rest)

own : (id : ℤ) → id <ℤ pos (behind id)
own (pos n) = omega (arith, ints)
own (negsuc n) = omega (arith, ints)

above_each : (ids : List ℤ) (k : ℕ) (d : ℤ) → k < length ids → slice_index_or ids k d <ℤ pos (least_above ids)
above_each [] k d lt = absurd (omega (arith, lt))
above_each (id ∷ ids) zero d lt =
    let here = least_above-cons id ids in
    let one = own id in
    omega (arith, ints, here, one)
above_each (id ∷ ids) (suc k) d lt =
    let here = least_above-cons id ids in
    let rest = above_each ids k d (omega (arith, lt)) in
    omega (arith, ints, here, rest)

-- it is above each of them
pub above : (ids : List ℤ) (id : ℤ) → Contains ids id → id <ℤ pos (least_above ids)
above ids id there = All-contains (λ (x : ℤ). x <ℤ pos (least_above ids)) ids id (above_each ids) there

behind_least : (id : ℤ) (n : ℕ) → id <ℤ pos n → behind id ≤ n
behind_least (pos m) n lt = omega (arith, ints, lt)
behind_least (negsuc m) n lt = omega arith

-- no number below is
pub least : (ids : List ℤ) (n : ℕ) → ((id : ℤ) → Contains ids id → id <ℤ pos n) → least_above ids ≤ n
least [] n all = omega arith
least (id ∷ ids) n all =
    let here = least_above-cons id ids in
    let one = behind_least id n (all id (0, omega arith, refl)) in
    let rest = least ids n (λ x there. all x (suc there.0, omega (arith, there.1), there.2)) in
    omega (arith, here, one, rest)

-- a batch whose producer has no id counts for nothing
least_filtered : (ks : List Kept) → least_above (ids_kept (filter is_idempotent ks)) ≡ least_above (ids_kept ks)
least_filtered [] = refl
least_filtered (k ∷ ks) = by (int_eq k.producer_id (negsuc 0)) refl (least_filtered ks)
  where
    by : (t : Bool) → int_eq k.producer_id (negsuc 0) ≡ t → least_above (ids_kept (filter is_idempotent ks)) ≡ least_above (ids_kept ks)
        → least_above (ids_kept (cond (not t) (k ∷ filter is_idempotent ks) (filter is_idempotent ks))) ≡ least_above (ids_kept (k ∷ ks))
    by true e rest =
        let none : behind k.producer_id ≡ 0 = ap behind ((Decides-int_eq k.producer_id (negsuc 0)).0 e) in
        let here = least_above-cons k.producer_id (ids_kept ks) in
        omega (arith, none, here, rest)
    by false e rest =
        let kept = least_above-cons k.producer_id (ids_kept (filter is_idempotent ks)) in
        let here = least_above-cons k.producer_id (ids_kept ks) in
        omega (arith, kept, here, rest)

ids_mapped : (batches : List (List ℕ)) → ids_kept (map kept_of batches) ≡ ids_of batches
ids_mapped [] = refl
ids_mapped (b ∷ bs) = ap (λ ids. producer_id_of b ∷ ids) (ids_mapped bs)

pub least_kept : (batches : List (List ℕ)) → least_above (ids_kept (kept_all batches)) ≡ least_above (ids_of batches)
least_kept batches = least_filtered (map kept_of batches) ∙ ap least_above (ids_mapped batches)
