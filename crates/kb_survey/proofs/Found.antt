-- The batches that are found in some bytes, from the first one on.
use Rattle.std.proofs.Common.{◌≡◌, ◌∙◌, ◌≤◌, ◌<◌, ◌+◌, ℕ, zero, suc, true, false, cond, List, [], ◌∷◌, length, drop, Option, Some, None, refl, sym, ap, arith, length-drop}
use Rattle.std.specs.List.{concat, filter}
use Rattle.std.proofs.lemmas.List.{length-append}
use Rattle.kb_batch.specs.Batch.{front}
use Rattle.kb_batch.specs.BatchLaws.{batch_long, front_is}
use Rattle.kb_survey.specs.declared.whole.Whole.{Whole}
use Rattle.kb_survey.specs.Whole.{batches_among, ends_above, batches_within, going_on, together, whole_in, whole_of}

same_steps : ((s b : List ℕ) → front s ≡ Some b → 1 ≤ length b) → (n m : ℕ) (s : List ℕ) → length s ≤ n → length s ≤ m → batches_within n s ≡ batches_within m s
same_steps long zero zero s l k = refl
same_steps long zero (suc m) [] l k = refl
same_steps long zero (suc m) (x ∷ s) l k = absurd (omega (arith, l))
same_steps long (suc n) zero [] l k = refl
same_steps long (suc n) zero (x ∷ s) l k = absurd (omega (arith, k))
same_steps long (suc n) (suc m) [] l k = refl
same_steps long (suc n) (suc m) (x ∷ s) l k = each (front (x ∷ s)) refl (λ r a b. same_steps long n m r a b)
  where
    each : (o : Option (List ℕ)) → front (x ∷ s) ≡ o → ((r : List ℕ) → length r ≤ n → length r ≤ m → batches_within n r ≡ batches_within m r)
        → going_on o (batches_within n) (x ∷ s) ≡ going_on o (batches_within m) (x ∷ s)
    each None e same = same (drop 1 (x ∷ s)) (omega (arith, l)) (omega (arith, k))
    each (Some b) e same =
        let some = long (x ∷ s) b e in
        let short = length-drop (length b) (x ∷ s) in
        ap (λ r. b ∷ r) (same (drop (length b) (x ∷ s)) (omega (arith, l, some, short)) (omega (arith, k, some, short)))

-- a batch has bytes
pub long : (s b : List ℕ) → front s ≡ Some b → 1 ≤ length b
long s b e = omega (arith, batch_long b (front_is s b e).is)

none_more : (w : Whole) → w ≡ together (record { batches = 0; bytes = 0 }) w
none_more w =
    let count : w.batches ≡ 0 + w.batches = omega arith in
    let size : w.bytes ≡ 0 + w.bytes = omega arith in
    λ i. record { batches = count i; bytes = size i }

module _ (long : (s b : List ℕ) → front s ≡ Some b → 1 ≤ length b) where
  pub found_none : (s : List ℕ) → 0 < length s → front s ≡ None → batches_among s ≡ batches_among (drop 1 s)
  found_none [] l e = absurd (omega (arith, l))
  found_none (x ∷ s) l e = ap (λ o. going_on o (batches_within (length s)) (x ∷ s)) e

  pub found_some : (s b : List ℕ) → 0 < length s → front s ≡ Some b → batches_among s ≡ b ∷ batches_among (drop (length b) s)
  found_some [] b l e = absurd (omega (arith, l))
  found_some (x ∷ s) b l e =
      let some = long (x ∷ s) b e in
      let short = length-drop (length b) (x ∷ s) in
      ap (λ o. going_on o (batches_within (length s)) (x ∷ s)) e
      ∙ ap (λ r. b ∷ r) (same_steps long (length s) (length (drop (length b) (x ∷ s))) (drop (length b) (x ∷ s)) (omega (arith, some, short)) (omega arith))

  pub counted_none : (start : ℕ) (s : List ℕ) → 0 < length s → front s ≡ None → whole_in start s ≡ together (record { batches = 0; bytes = 0 }) (whole_in start (drop 1 s))
  counted_none start s l e = ap (λ bs. whole_of (filter (ends_above start) bs)) (found_none s l e) ∙ none_more (whole_in start (drop 1 s))

  whole_cons : (b : List ℕ) (bs : List (List ℕ)) → whole_of (b ∷ bs) ≡ together (record { batches = 1; bytes = length b }) (whole_of bs)
  whole_cons b bs =
      let more : length (b ∷ bs) ≡ 1 + length bs = omega arith in
      let longer : length (concat (b ∷ bs)) ≡ length b + length (concat bs) = length-append b (concat bs) in
      λ i. record { batches = more i; bytes = longer i }

  pub counted_some : (start : ℕ) (s b : List ℕ) → 0 < length s → front s ≡ Some b → ends_above start b ≡ true
      → whole_in start s ≡ together (record { batches = 1; bytes = length b }) (whole_in start (drop (length b) s))
  counted_some start s b l e above =
      let rest = batches_among (drop (length b) s) in
      ap (λ bs. whole_of (filter (ends_above start) bs)) (found_some s b l e)
      ∙ ap (λ c. whole_of (cond c (b ∷ filter (ends_above start) rest) (filter (ends_above start) rest))) above
      ∙ whole_cons b (filter (ends_above start) rest)

  pub counted_below : (start : ℕ) (s b : List ℕ) → 0 < length s → front s ≡ Some b → ends_above start b ≡ false
      → whole_in start s ≡ together (record { batches = 0; bytes = 0 }) (whole_in start (drop (length b) s))
  counted_below start s b l e below =
      let rest = batches_among (drop (length b) s) in
      ap (λ bs. whole_of (filter (ends_above start) bs)) (found_some s b l e)
      ∙ ap (λ c. whole_of (cond c (b ∷ filter (ends_above start) rest) (filter (ends_above start) rest))) below ∙ none_more (whole_in start (drop (length b) s))
