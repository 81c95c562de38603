-- A batch that was stamped, and batches one after another.
use Rattle.std.proofs.Common.{◌≡◌, ◌∙◌, ◌≤◌, ◌<◌, ◌+◌, ◌++◌, ◌∷◌, [], ℕ, ℤ, List, Bool, true, false, cond, filter, length, get_or, drop, FitsSigned, ap, sym, refl, drop-cons, add-one, append_assoc}
use Rattle.std.specs.Int.{w64}
use Rattle.kb_batch.specs.Batch.{stamped}
use Rattle.kb_batch.specs.BatchLaws.{base_offset_of-stamped, producer_id_of-stamped, producer_epoch_of-stamped, base_sequence_of-stamped, count_of-stamped}
use Rattle.kb_producers.specs.declared.kept.Kept.{Kept}
use Rattle.kb_producers.specs.Verdict.{last_sequence}
use Rattle.kb_producers.specs.Batches.{kept_of, kept_all, is_idempotent}

-- what is kept of a stamped batch is what is kept of the batch, at its offset
pub kept_of_stamped : (base : ℤ) (s : List ℕ) → FitsSigned w64 base → 16 ≤ length s → record (kept_of s) { base_offset = base } ≡ kept_of (stamped base s)
kept_of_stamped base s fits long = λ i. record {
  producer_id = sym (producer_id_of-stamped base s long) i;
  producer_epoch = sym (producer_epoch_of-stamped base s long) i;
  base_sequence = sym (base_sequence_of-stamped base s long) i;
  last_sequence = last_sequence (sym (base_sequence_of-stamped base s long) i) (sym (count_of-stamped base s long) i);
  base_offset = sym (base_offset_of-stamped base s fits) i;
  record_count = sym (count_of-stamped base s long) i;
}

-- one batch more
pub kept_next : (ks : List Kept) (batches : List (List ℕ)) (i : ℕ) (d : List ℕ) → i < length batches → (ks ++ filter is_idempotent (kept_of (get_or batches i d) ∷ [])) ++ kept_all (drop (i + 1) batches) ≡ ks ++ kept_all (drop i batches)
kept_next ks batches i d lt =
    append_assoc ks (filter is_idempotent (kept_of (get_or batches i d) ∷ [])) (kept_all (drop (i + 1) batches))
    ∙ ap (λ t. ks ++ t) (each (is_idempotent (kept_of (get_or batches i d))) ∙ ap kept_all (ap (λ k. get_or batches i d ∷ drop k batches) (add-one i) ∙ sym (drop-cons batches i d lt)))
  where
    each : (b : Bool) → cond b (kept_of (get_or batches i d) ∷ []) [] ++ kept_all (drop (i + 1) batches) ≡ cond b (kept_of (get_or batches i d) ∷ kept_all (drop (i + 1) batches)) (kept_all (drop (i + 1) batches))
    each true = refl
    each false = refl
