-- A batch that has all of its bytes is not cut short, whichever of them are damaged.
use Rattle.std.proofs.Common.{◌≡◌, ◌∙◌, ◌≤◌, ◌==◌, ◌&&◌, ◌||◌, ℕ, Bool, true, false, not, List, length, drop, take, nat_le, nat_lt, sym, ap, arith, refl}
use Rattle.std.specs.Int.{w32, byte_len, from_be_bytes}
use Rattle.std.proofs.lemmas.Bool.{false_from_ne_true, ltb-true, eq-eqb}
use Rattle.std.proofs.lemmas.List.{drop-drop}
use Rattle.kb_batch.specs.Batch.{size_told, IsBatch}
use Rattle.kb_batch.specs.BatchLaws.{batch_long, told}
use Rattle.kb_batch.specs.Crc.{crc_of}
use Rattle.kb_batch.specs.Header.{checksum_of, number_at}
use Rattle.kb_survey.specs.Ending.{is_cut_short}

not_below : (a b : ℕ) → b ≤ a → nat_lt a b ≡ false
not_below a b l = false_from_ne_true (nat_lt a b) (λ e. omega (arith, l, ltb-true a b e))

-- what follows from the parts of the test
both_false : (a b c d : Bool) → a ≡ false → b ≡ false → (a || (b && c && d)) ≡ false
both_false a b c d p q = ap (λ x. x || (b && c && d)) p ∙ ap (λ x. x && c && d) q

last_false : (a b c d : Bool) → a ≡ false → d ≡ false → (a || (b && c && d)) ≡ false
last_false a b c d p q = ap (λ x. x || (b && c && d)) p ∙ ap (λ x. b && c && x) q ∙ none b c
  where
    none : (x y : Bool) → (x && y && false) ≡ false
    none true true = refl
    none true false = refl
    none false y = refl

long_enough : (b s : List ℕ) → IsBatch b → length s ≡ length b → nat_lt (length s) 61 ≡ false
long_enough b s is same = not_below (length s) 61 (omega (arith, same, batch_long b is))

-- it tells its length
pub told_whole : (b s : List ℕ) → IsBatch b → length s ≡ length b → size_told s ≡ size_told b → is_cut_short s ≡ false
told_whole b s is same size =
    both_false (nat_lt (length s) 61) (nat_lt (length s) (size_told s)) (nat_le (size_told s) 1048588)
    (not (checksum_of s == crc_of (drop 21 s))) (long_enough b s is same)
    (not_below (length s) (size_told s) (omega (arith, same, size, told b is)))

same_checksum : (b s : List ℕ) → drop 17 s ≡ drop 17 b → checksum_of s ≡ checksum_of b
unfolding number_at
same_checksum b s e = ap (λ x. from_be_bytes w32 (take (byte_len w32) x)) e

-- its checksum is there, and all that it is of
pub checked_whole : (b s : List ℕ) → IsBatch b → length s ≡ length b → drop 17 s ≡ drop 17 b → is_cut_short s ≡ false
checked_whole b s is same e =
    let behind : drop 21 s ≡ drop 21 b = sym (drop-drop 4 17 s) ∙ ap (drop 4) e ∙ drop-drop 4 17 b in
    let right : checksum_of s ≡ crc_of (drop 21 s) = same_checksum b s e ∙ is.spelled.checksum ∙ ap crc_of (sym behind) in
    last_false (nat_lt (length s) 61) (nat_lt (length s) (size_told s)) (nat_le (size_told s) 1048588)
    (not (checksum_of s == crc_of (drop 21 s))) (long_enough b s is same)
    (ap not (eq-eqb (checksum_of s) (crc_of (drop 21 s)) right))
