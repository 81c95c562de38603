-- The lines of batches that stand one after another.
use Rattle.std.proofs.Common.{◌≡◌, ℕ, zero, suc, ◌<◌, ◌≤◌, ◌-◌, ◌+◌, ◌++◌, ◌∷◌, [], List, Bool, true, false, length, take, drop, Option, Some, None, Ok, ◌⊎◌, inl, inr, refl, sym, ap, ◌∙◌, subst, arith, append_assoc}
use Rattle.std.specs.Prelude.{option_map, option_and_then}
use Rattle.std.specs.Prelude.{ℤ, min}
use Rattle.std.specs.List.{flat_map}
use Rattle.std.proofs.lemmas.List.{length-take, length-drop, length-map, take-take, take_min}
use Rattle.std.proofs.Math.Seq.{take-length}
use Rattle.kb_batch.specs.declared.record.RecordView.{RecordView}
use Rattle.kb_batch.specs.Header.{base_offset_of, base_timestamp_of}
use Rattle.kb_batch.specs.Record.{view_of}
use Rattle.kb_batch.specs.Scan.{views_of}
use Rattle.kb_batch.specs.Batch.{front, count_of, records_of}
use Rattle.kb_batch.specs.BatchLaws.{no_room}
use Rattle.kb_client.specs.Lines.{Found, whole_batches, is_ahead, with_batch, with_batches, with_at_most, Comes, has_no_bytes, above, end_offset_of, given_of, less, at_most, records_from, line_text}

-- no byte is left
pub walk_done : (n : ℕ) (f : Found) → with_at_most n [] f ≡ Some f
unfolding whole_batches
walk_done zero f = refl
walk_done (suc n) f = refl

-- bytes are left that no batch stands in front of
pub walk_stuck : (n : ℕ) (s : List ℕ) (f : Found) → front s ≡ None → (s ≡ [] → ⊥) → with_at_most n s f ≡ None
unfolding whole_batches
walk_stuck n [] f none some = absurd (some refl)
walk_stuck zero (b ∷ s) f none some = refl
walk_stuck (suc n) (b ∷ s) f none some = rw none refl

through : (o : Option (List (List ℕ))) (batch : List ℕ) (f : Found) → is_ahead f.offset batch ≡ true → option_and_then (λ batches. with_batches batches f) (option_map (λ batches. batch ∷ batches) o) ≡ option_and_then (λ batches. with_batches batches (with_batch batch f)) o
through None batch f ahead = refl
through (Some batches) batch f ahead = rw ahead refl

stopped : (o : Option (List (List ℕ))) (batch : List ℕ) (f : Found) → is_ahead f.offset batch ≡ false → option_and_then (λ batches. with_batches batches f) (option_map (λ batches. batch ∷ batches) o) ≡ None
stopped None batch f behind = refl
stopped (Some batches) batch f behind = rw behind refl

-- the batch in front is ahead
pub walk_next : (n m : ℕ) (s batch : List ℕ) (f : Found) → m ≡ suc n → front s ≡ Some batch → is_ahead f.offset batch ≡ true → with_at_most m s f ≡ with_at_most n (drop (length batch) s) (with_batch batch f)
unfolding whole_batches
walk_next n zero s batch f more is ahead = absurd cc
walk_next n (suc m) [] batch f more is ahead = let none : front [] ≡ None = no_room [] (omega arith) in absurd cc
walk_next n (suc m) (b ∷ s) batch f more is ahead =
    let same : m ≡ n = omega (arith, more) in
    rw (is, same) (through (whole_batches n (drop (length batch) (b ∷ s))) batch f ahead)

-- it is not
pub walk_stopped : (m : ℕ) (s batch : List ℕ) (f : Found) → 0 < m → front s ≡ Some batch → is_ahead f.offset batch ≡ false → with_at_most m s f ≡ None
unfolding whole_batches
walk_stopped zero s batch f some is behind = absurd (omega (arith, some))
walk_stopped (suc m) [] batch f some is behind = let none : front [] ≡ None = no_room [] (omega arith) in absurd cc
walk_stopped (suc m) (b ∷ s) batch f some is behind = rw is (stopped (whole_batches m (drop (length batch) (b ∷ s))) batch f behind)

walk_over : (n : ℕ) (b : ℕ) (s : List ℕ) (f : Found) → (n ≡ 0) ⊎ (front (b ∷ s) ≡ None) → with_at_most n (b ∷ s) f ≡ None
unfolding whole_batches
walk_over zero b s f none = refl
walk_over (suc n) b s f (inl none) = absurd cc
walk_over (suc n) b s f (inr none) = rw none refl

-- no batch stands in front, or none more may: the bytes have to be at their end
pub walk_ends : (end : Bool) (n : ℕ) (s bytes : List ℕ) (old f : Found) → end ≡ has_no_bytes s → (n ≡ 0) ⊎ (front s ≡ None) → with_at_most n s f ≡ with_at_most (length bytes) bytes old → Comes old bytes end f
walk_ends true n [] bytes old f is none told = sym told ∙ walk_done n f
walk_ends true n (b ∷ s) bytes old f is none told = absurd cc
walk_ends false n [] bytes old f is none told = absurd cc
walk_ends false n (b ∷ s) bytes old f is none told = sym told ∙ walk_over n b s f none

-- the batch in front was added
pub walk_step : (m n size : ℕ) (s rest batch : List ℕ) (old f new : Found) (bytes : List ℕ) → rest ≡ drop size s → size ≡ length batch → Some batch ≡ front s → is_ahead f.offset batch ≡ true → new ≡ with_batch batch f → m ≡ suc n → with_at_most m s f ≡ with_at_most (length bytes) bytes old → with_at_most n rest new ≡ with_at_most (length bytes) bytes old
walk_step m n size s rest batch old f new bytes past is at ahead added more told =
    ap (λ r. with_at_most n r new) (past ∙ ap (λ k. drop k s) is) ∙ ap (with_at_most n (drop (length batch) s)) added ∙ sym (walk_next n m s batch f more (sym at) ahead) ∙ told

-- a front of a front
pub front_kept : (a b c : List ℕ) → take (length a) b ≡ a → take (length b) c ≡ b → take (length a) c ≡ a
front_kept a b c p q =
    let le : length a ≤ length b = omega (arith, ap length (sym p) ∙ length-take (length a) b) in
    sym (take-take (length a) (length b) c le) ∙ ap (take (length a)) q ∙ p

-- ---- the lines of a batch

taken_is : (w : Option ℕ) (rs : List RecordView) (n given : ℕ) → n ≡ length rs → given ≡ given_of w n → take given rs ≡ at_most w rs
taken_is None rs n given size is = ap (λ k. take k rs) (is ∙ size) ∙ take-length rs
taken_is (Some k) rs n given size is = ap (λ m. take m rs) (is ∙ ap (min k) size) ∙ take_min k rs

pub batch_added : (old mid new : Found) (batch : List ℕ) (skipped count left given : ℕ) (asked wanted : Option ℕ) → skipped ≡ above old.offset (base_offset_of batch) → count ≡ count_of batch → left ≡ count - skipped → asked ≡ old.wanted → given ≡ given_of asked left → wanted ≡ less asked left → mid ≡ record old { text = old.text ++ flat_map line_text (take given (drop skipped (views_of batch))) } → new ≡ record mid { offset = end_offset_of batch; wanted = wanted } → new ≡ with_batch batch old
batch_added old mid new batch skipped count left given asked wanted skips counts lefts asks gives wants lengthened moved =
    let rs = records_from old.offset batch in
    let same : drop skipped (views_of batch) ≡ rs = ap (λ k. drop k (views_of batch)) skips in
    let size : left ≡ length rs = lefts ∙ ap (λ k. k - skipped) (counts ∙ sym (length-map (records_of batch) (view_of (base_timestamp_of batch)))) ∙ sym (length-drop skipped (views_of batch)) ∙ ap length same in
    let lines : take given (drop skipped (views_of batch)) ≡ at_most old.wanted rs = ap (take given) same ∙ taken_is old.wanted rs left given size (gives ∙ ap (λ w. given_of w left) asks) in
    let fewer : wanted ≡ less old.wanted (length rs) = wants ∙ ap (λ w. less w left) asks ∙ ap (less old.wanted) size in
    moved ∙ ap (λ (f : Found). record f { offset = end_offset_of batch; wanted = wanted }) lengthened ∙ ap (λ w. record old { offset = end_offset_of batch; wanted = w; text = old.text ++ flat_map line_text (take given (drop skipped (views_of batch))) }) fewer ∙ ap (λ (xs : List RecordView). record old { offset = end_offset_of batch; wanted = less old.wanted (length rs); text = old.text ++ flat_map line_text xs }) lines

-- the line of a record is added, and those behind it are left to add
pub line_added : (old new all : List ℕ) (r : RecordView) (rest : List RecordView) (skipped given : ℕ) → (0 < skipped → ⊥) → 0 < given → new ≡ old ++ line_text r → old ++ flat_map line_text (take given (drop skipped (r ∷ rest))) ≡ all → new ++ flat_map line_text (take (given - 1) (drop skipped rest)) ≡ all
line_added old new all r rest zero zero none some is told = absurd (omega (arith, some))
line_added old new all r rest zero (suc g) none some is told =
    let e : suc g - 1 ≡ g = omega arith in
    rw e (ap (λ t. t ++ flat_map line_text (take g rest)) is ∙ append_assoc old (line_text r) (flat_map line_text (take g rest)) ∙ told)
line_added old new all r rest (suc k) given none some is told = absurd (none (omega arith))
