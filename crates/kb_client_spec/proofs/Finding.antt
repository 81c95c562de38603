-- What a consumer finds in the batches that a fetch is answered.
use Rattle.std.proofs.Common.{◌≡◌, ℕ, zero, suc, ◌+◌, ◌-◌, ◌^◌, ◌≤◌, Bool, true, false, cond, ltb, List, [], ◌∷◌, ◌++◌, length, take, drop, Option, Some, None, refl, sym, ap, subst, ◌∙◌, append_assoc, arith, inl, inr}
use Rattle.std.specs.Int.{w64}
use Rattle.std.specs.Prelude.{FitsSigned, ℤ, pos, negsuc, ◌≤ℤ◌, ◌<ℤ◌, ◌+ℤ◌, ◌-ℤ◌, ◌⊎◌, int_lt, unsigned_abs, option_map, option_and_then, ◌&&◌}
use Rattle.std.specs.List.{flat_map}
use Rattle.std.proofs.lemmas.Int.{ints}
use Rattle.std.proofs.lemmas.List.{append-nil, length-append, length-map, drop_all, drop_at}
use Rattle.std.proofs.lemmas.List.Concat.{flat_map-append}
use Rattle.kb_batch.specs.declared.record.RecordView.{RecordView}
use Rattle.kb_batch.specs.Header.{base_offset_of, base_timestamp_of}
use Rattle.kb_batch.specs.Record.{view_of}
use Rattle.kb_batch.specs.Scan.{views_of}
use Rattle.kb_batch.specs.Batch.{IsBatch, count_of, records_of, front}
use Rattle.kb_batch.specs.BatchLaws.{batch_counted, batch_long, batch_small, front-append}
use Rattle.kb_client.specs.Lines.{Found, whole_batches, is_ahead, with_batch, with_batches, found_in, above, end_offset_of, less, at_most, records_from, line_text}
use Rattle.kb_client_spec.specs.Fetching.{fitting}
use Rattle.std.proofs.lemmas.Bool.{ltb-false}
use Rattle.kb_client_spec.specs.Partition.{IsLog, end_of_log, batches_from, records_of_log, batch_bytes, batches_given}

-- ---- offsets

views_len : (b : List ℕ) → length (views_of b) ≡ count_of b
views_len b = length-map (records_of b) (view_of (base_timestamp_of b))

-- a distance between two offsets
far : (base off : ℤ) (n : ℕ) (t : Bool) → int_lt base off ≡ t → (base +ℤ pos n) ≤ℤ off → n ≤ cond t (unsigned_abs (off -ℤ base)) 0
far base off n true e le = omega (arith, ints)
far base off n false e le = omega (arith, ints)

near : (base off : ℤ) (t : Bool) → int_lt base off ≡ t → off ≤ℤ base → cond t (unsigned_abs (off -ℤ base)) 0 ≡ 0
near base off true e le = absurd (omega (arith, ints))
near base off false e le = refl

-- a batch that ends at an offset or below has nothing at it and above
nothing_from : (off : ℤ) (b : List ℕ) → end_offset_of b ≤ℤ off → records_from off b ≡ []
nothing_from off b le =
    let enough : count_of b ≤ above off (base_offset_of b) = far (base_offset_of b) off (count_of b) (int_lt (base_offset_of b) off) refl le in
    drop_all (above off (base_offset_of b)) (views_of b) (omega (arith, views_len b, enough))

-- one that begins there or above has all
all_from : (off : ℤ) (b : List ℕ) → off ≤ℤ base_offset_of b → records_from off b ≡ views_of b
all_from off b le = ap (λ n. drop n (views_of b)) (near (base_offset_of b) off (int_lt (base_offset_of b) off) refl le)

end_above : (b : List ℕ) → IsBatch b → base_offset_of b <ℤ end_offset_of b
end_above b is = let some : 1 ≤ count_of b = batch_counted b is in omega (arith, ints, some)

pub at_or_below : (a b c : ℤ) → a ≤ℤ b → b ≤ℤ c → a ≤ℤ c
at_or_below a b c e f = omega (arith, ints)

below_then : (a b : ℤ) → a <ℤ b → a ≤ℤ b
below_then a b e = omega (arith, ints)

-- a log ends where it begins or above
log_ends : (from : ℤ) (bs : List (List ℕ)) → IsLog from bs → from ≤ℤ end_of_log from bs
log_ends from [] log = omega (arith, ints)
log_ends from (b ∷ bs) log =
    let up : from ≤ℤ end_offset_of b = at_or_below from (base_offset_of b) (end_offset_of b) log.1 (below_then (base_offset_of b) (end_offset_of b) (end_above b log.0)) in
    at_or_below from (end_offset_of b) (end_of_log (end_offset_of b) bs) up (log_ends (end_offset_of b) bs log.3)

pub end_grows : (from : ℤ) (xs bs : List (List ℕ)) → IsLog from (xs ++ bs) → end_of_log from xs ≤ℤ end_of_log from (xs ++ bs)
end_grows from [] bs log = log_ends from bs log
end_grows from (x ∷ xs) bs log = end_grows (end_offset_of x) xs bs log.3

up_to_end : (x y z : ℤ) → y ≤ℤ z → (x ≤ℤ y) ⊎ (x ≤ℤ z) → x ≤ℤ z
up_to_end x y z le (inl h) = at_or_below x y z h le
up_to_end x y z le (inr h) = h

-- of a log that begins at an offset or above each record is at it or above
pub whole_log : (off from : ℤ) (bs : List (List ℕ)) → off ≤ℤ from → IsLog from bs → records_of_log off bs ≡ flat_map (λ b. views_of b) bs
whole_log off from [] le log = refl
whole_log off from (b ∷ bs) le log =
    let low : off ≤ℤ base_offset_of b = at_or_below off from (base_offset_of b) le log.1 in
    let next : off ≤ℤ end_offset_of b = at_or_below off (base_offset_of b) (end_offset_of b) low (below_then (base_offset_of b) (end_offset_of b) (end_above b log.0)) in
    ap (λ x. x ++ records_of_log off bs) (all_from off b low) ∙ ap (λ x. views_of b ++ x) (whole_log off (end_offset_of b) bs next log.3)

pub same_log : (a b from : ℤ) (bs : List (List ℕ)) → a ≤ℤ from → b ≤ℤ from → IsLog from bs → records_of_log a bs ≡ records_of_log b bs
same_log a b from bs p q log = whole_log a from bs p log ∙ sym (whole_log b from bs q log)

-- the same of what stands behind some batches of a log, and behind others
after_log : (a b from : ℤ) (between more : List (List ℕ)) → a ≤ℤ from → b ≤ℤ from → IsLog from (between ++ more) → records_of_log a more ≡ records_of_log b more
after_log a b from [] more p q log = same_log a b from more p q log
after_log a b from (c ∷ between) more p q log =
    let up : from ≤ℤ end_offset_of c = at_or_below from (base_offset_of c) (end_offset_of c) log.1 (below_then (base_offset_of c) (end_offset_of c) (end_above c log.0)) in
    after_log a b (end_offset_of c) between more (at_or_below a from (end_offset_of c) p up) (at_or_below b from (end_offset_of c) q up) log.3

later_log : (a b from : ℤ) (bs between more : List (List ℕ)) → a ≤ℤ from → b ≤ℤ from → IsLog from (bs ++ (between ++ more)) → records_of_log a more ≡ records_of_log b more
later_log a b from [] between more p q log = after_log a b from between more p q log
later_log a b from (c ∷ bs) between more p q log =
    let up : from ≤ℤ end_offset_of c = at_or_below from (base_offset_of c) (end_offset_of c) log.1 (below_then (base_offset_of c) (end_offset_of c) (end_above c log.0)) in
    later_log a b (end_offset_of c) bs between more (at_or_below a from (end_offset_of c) p up) (at_or_below b from (end_offset_of c) q up) log.3

-- ---- so many lines

pub at_most_more : (w : Option ℕ) (xs ys : List RecordView) → at_most w (xs ++ ys) ≡ at_most w xs ++ at_most (less w (length xs)) ys
at_most_more None xs ys = refl
at_most_more (Some zero) [] ys = refl
at_most_more (Some (suc n)) [] ys = let e : suc n ≡ suc n - 0 = omega arith in ap (λ k. take k ys) e
at_most_more (Some zero) (x ∷ xs) ys = let e : zero ≡ zero - length (x ∷ xs) = omega arith in ap (λ k. take k ys) e
at_most_more (Some (suc n)) (x ∷ xs) ys =
    let e : n - length xs ≡ suc n - length (x ∷ xs) = omega arith in
    ap (λ zs. x ∷ zs) (at_most_more (Some n) xs ys ∙ ap (λ k. take n xs ++ take k ys) e)

pub no_lines : (w : Option ℕ) → flat_map line_text (at_most {A = RecordView} w []) ≡ []
no_lines None = refl
no_lines (Some zero) = refl
no_lines (Some (suc n)) = refl

pub none_less : (w : Option ℕ) → w ≡ less w 0
none_less None = refl
none_less (Some n) = let e : n ≡ n - 0 = omega arith in ap (λ k. Some k) e

pub less_more : (w : Option ℕ) (a b : ℕ) → less (less w a) b ≡ less w (a + b)
less_more None a b = refl
less_more (Some n) a b = let e : n - a - b ≡ n - (a + b) = omega arith in ap (λ k. Some k) e

-- ---- what is found in batches

-- these records are found, and what is left is what stands behind them
pub record Finds (f : Found) (bs read : List (List ℕ)) : Type 0 where
  pub after : Found
  pub records : List RecordView
  pub reads : with_batches read f ≡ Some after
  pub split : records_of_log f.offset bs ≡ records ++ records_of_log after.offset bs
  pub text : after.text ≡ f.text ++ flat_map line_text (at_most f.wanted records)
  pub wanted : after.wanted ≡ less f.wanted (length records)
  pub rises : f.offset ≤ℤ after.offset
  pub fits : FitsSigned w64 f.offset → FitsSigned w64 after.offset
  pub ends : (from : ℤ) → IsLog from bs → (after.offset ≤ℤ f.offset) ⊎ (after.offset ≤ℤ end_of_log from bs)
  -- of batches behind these the same is left
  pub later : (from : ℤ) (between more : List (List ℕ)) → IsLog from (bs ++ (between ++ more)) → records_of_log f.offset more ≡ records_of_log after.offset more

finds_none : (f : Found) (bs : List (List ℕ)) → Finds f bs []
finds_none f bs = record {
  after = f;
  records = [];
  reads = refl;
  split = refl;
  text = sym (ap (λ t. f.text ++ t) (no_lines f.wanted) ∙ append-nil f.text);
  wanted = none_less f.wanted;
  rises = omega (arith, ints);
  fits = λ fit. fit;
  ends = λ from log. inl (omega (arith, ints));
  later = λ from between more log. refl;
}

ahead_is : (off : ℤ) (b : List ℕ) → off <ℤ end_offset_of b → end_offset_of b <ℤ pos (2 ^ 63) → is_ahead off b ≡ true
ahead_is off b lt low = both (int_lt off (end_offset_of b)) (int_lt (end_offset_of b) (pos (2 ^ 63))) refl refl
  where
    both : (p q : Bool) → int_lt off (end_offset_of b) ≡ p → int_lt (end_offset_of b) (pos (2 ^ 63)) ≡ q → (p && q) ≡ true
    both true true x y = refl
    both true false x y = absurd (omega (arith, ints))
    both false q x y = absurd (omega (arith, ints))

pub found_text : (w : Option ℕ) (xs ys : List RecordView) (text : List ℕ) → (text ++ flat_map line_text (at_most w xs)) ++ flat_map line_text (at_most (less w (length xs)) ys) ≡ text ++ flat_map line_text (at_most w (xs ++ ys))
found_text w xs ys text = append_assoc text (flat_map line_text (at_most w xs)) (flat_map line_text (at_most (less w (length xs)) ys)) ∙ ap (λ t. text ++ t) (sym (flat_map-append line_text (at_most w xs) (at_most (less w (length xs)) ys)) ∙ ap (flat_map line_text) (sym (at_most_more w xs ys)))

end_fits : (off end : ℤ) → off <ℤ end → end <ℤ pos (2 ^ 63) → FitsSigned w64 off → FitsSigned w64 end
end_fits off (pos n) lt low fit = record { sfits = omega (arith, ints) }
end_fits (pos m) (negsuc n) lt low fit = absurd (omega (arith, ints))
end_fits (negsuc m) (negsuc n) lt low fit = record { sfits = omega (arith, ints, fit.sfits) }

-- a batch that is ahead, and then others
finds_first : (f : Found) (b : List ℕ) (bs read : List (List ℕ)) → f.offset <ℤ end_offset_of b → end_offset_of b <ℤ pos (2 ^ 63) → IsLog (end_offset_of b) bs → Finds (with_batch b f) bs read → Finds f (b ∷ bs) (b ∷ read)
finds_first f b bs read lt low log next =
    let r : List RecordView = records_from f.offset b in
    let same : records_of_log f.offset bs ≡ records_of_log (end_offset_of b) bs = same_log f.offset (end_offset_of b) (end_offset_of b) bs (below_then f.offset (end_offset_of b) lt) (omega (arith, ints)) log in
    let none : records_from next.after.offset b ≡ [] = nothing_from next.after.offset b next.rises in
    record {
      after = next.after;
      records = r ++ next.records;
      reads = ap (λ t. cond t (with_batches read (with_batch b f)) None) (ahead_is f.offset b lt low) ∙ next.reads;
      split = ap (λ x. r ++ x) (same ∙ next.split ∙ ap (λ x. next.records ++ (x ++ records_of_log next.after.offset bs)) (sym none)) ∙ sym (append_assoc r next.records (records_of_log next.after.offset (b ∷ bs)));
      text = next.text ∙ found_text f.wanted r next.records f.text;
      wanted = next.wanted ∙ less_more f.wanted (length r) (length next.records) ∙ ap (λ n. less f.wanted n) (sym (length-append r next.records));
      rises = at_or_below f.offset (end_offset_of b) next.after.offset (below_then f.offset (end_offset_of b) lt) next.rises;
      fits = λ fit. next.fits (end_fits f.offset (end_offset_of b) lt low fit);
      ends = λ from whole. inr (up_to_end next.after.offset (end_offset_of b) (end_of_log (end_offset_of b) bs) (log_ends (end_offset_of b) bs whole.3) (next.ends (end_offset_of b) whole.3));
      later = λ from between more whole. later_log f.offset (end_offset_of b) (end_offset_of b) bs between more (below_then f.offset (end_offset_of b) lt) (omega (arith, ints)) whole.3 ∙ next.later (end_offset_of b) between more whole.3;
    }

strictly : (a b c d : ℤ) → a ≤ℤ b → b ≤ℤ c → c <ℤ d → a <ℤ d
strictly a b c d e f g = omega (arith, ints)

-- so many batches of a log that begins at the offset or above
finds_some : (n : ℕ) (f : Found) (from : ℤ) (bs : List (List ℕ)) → f.offset ≤ℤ from → IsLog from bs → Finds f bs (take n bs)
finds_some zero f from [] le log = finds_none f []
finds_some (suc n) f from [] le log = finds_none f []
finds_some zero f from (b ∷ bs) le log = finds_none f (b ∷ bs)
finds_some (suc n) f from (b ∷ bs) le log =
    let lt : f.offset <ℤ end_offset_of b = strictly f.offset from (base_offset_of b) (end_offset_of b) le log.1 (end_above b log.0) in
    finds_first f b bs (take n bs) lt log.2 log.3 (finds_some n (with_batch b f) (end_offset_of b) bs (omega (arith, ints)) log.3)

-- a batch that ends at the offset or below is passed over
skipped : (f : Found) (b : List ℕ) (bs read : List (List ℕ)) → end_offset_of b ≤ℤ f.offset → Finds f bs read → Finds f (b ∷ bs) read
skipped f b bs read le next =
    let none : records_from f.offset b ≡ [] = nothing_from f.offset b le in
    let also : records_from next.after.offset b ≡ [] = nothing_from next.after.offset b (at_or_below (end_offset_of b) f.offset next.after.offset le next.rises) in
    record {
      after = next.after;
      records = next.records;
      reads = next.reads;
      split = ap (λ x. x ++ records_of_log f.offset bs) none ∙ next.split ∙ ap (λ x. next.records ++ (x ++ records_of_log next.after.offset bs)) (sym also);
      text = next.text;
      wanted = next.wanted;
      rises = next.rises;
      fits = next.fits;
      ends = λ from whole. next.ends (end_offset_of b) whole.3;
      later = λ from between more whole. next.later (end_offset_of b) between more whole.3;
    }

answered_by : (t : Bool) (n : ℕ) (f : Found) (b : List ℕ) (bs : List (List ℕ)) → int_lt f.offset (end_offset_of b) ≡ t → (from : ℤ) → IsLog from (b ∷ bs) → Finds f bs (batches_given n f.offset bs) → Finds f (b ∷ bs) (take (suc n) (cond t (b ∷ bs) (batches_from f.offset bs)))
answered_by true n f b bs e from log next = finds_first f b bs (take n bs) (omega (arith, ints)) log.2 log.3 (finds_some n (with_batch b f) (end_offset_of b) bs (omega (arith, ints)) log.3)
answered_by false n f b bs e from log next = skipped f b bs (batches_given n f.offset bs) (omega (arith, ints)) next

some_batches : (b : List ℕ) (bs : List (List ℕ)) (P : Type 0) → ◌≡◌ {A = List (List ℕ)} (b ∷ bs) [] → P
some_batches b bs P e = absurd cc

held_by : (t : Bool) (n : ℕ) (off : ℤ) (b : List ℕ) (bs : List (List ℕ)) → int_lt off (end_offset_of b) ≡ t → take (suc n) (cond t (b ∷ bs) (batches_from off bs)) ≡ [] → (batches_given n off bs ≡ [] → records_of_log off bs ≡ []) → records_of_log off (b ∷ bs) ≡ []
held_by true n off b bs t e next = some_batches b (take n bs) (records_of_log off (b ∷ bs) ≡ []) e
held_by false n off b bs t e next = ap (λ x. x ++ records_of_log off bs) (nothing_from off b (omega (arith, ints))) ∙ next e

-- what a fetch is answered
pub finds_answered : (n : ℕ) (f : Found) (from : ℤ) (bs : List (List ℕ)) → IsLog from bs → Finds f bs (batches_given n f.offset bs)
unfolding batches_from
finds_answered n f from [] log = finds_none f []
finds_answered n f from (b ∷ bs) log = answered_by (int_lt f.offset (end_offset_of b)) n f b bs refl from log (finds_answered n f (end_offset_of b) bs log.3)

-- an answer with no batch: the end was met
pub nothing_held : (n : ℕ) (off : ℤ) (bs : List (List ℕ)) → batches_given n off bs ≡ [] → records_of_log off bs ≡ []
unfolding batches_from
nothing_held n off [] e = refl
nothing_held n off (b ∷ bs) e = held_by (int_lt off (end_offset_of b)) n off b bs refl e (nothing_held n off bs)

-- ---- the bytes of batches

one_more : (o : Option (List (List ℕ))) (b : List ℕ) (bs : List (List ℕ)) → o ≡ Some bs → option_map (λ batches. b ∷ batches) o ≡ Some (b ∷ bs)
one_more o b bs e = ap (option_map (λ batches. b ∷ batches)) e

abbrev AreBatches : List (List ℕ) → Type 0
AreBatches [] = Unit {0}
AreBatches (b ∷ bs) = IsBatch b × AreBatches bs

in_front : (n : ℕ) (s b t : List ℕ) → s ≡ b ++ t → IsBatch b → whole_batches (suc n) s ≡ option_map (λ batches. b ∷ batches) (whole_batches n t)
unfolding whole_batches
in_front n [] b t e is = absurd (short b t (sym e) (batch_long b is))
  where
    short : (b t : List ℕ) → b ++ t ≡ [] → 61 ≤ length b → ⊥
    short [] t e le = omega (arith, le)
    short (x ∷ b) t e le = cc
in_front n (x ∷ s) b t e is =
    let first : front (x ∷ s) ≡ Some b = ap front e ∙ front-append b t is in
    let rest : drop (length b) (x ∷ s) ≡ t = ap (drop (length b)) e ∙ drop_at b t (length b) refl in
    rw (first, rest) refl

batches_joined : (n : ℕ) (bs : List (List ℕ)) → AreBatches bs → length bs ≤ n → whole_batches n (batch_bytes bs) ≡ Some bs
unfolding whole_batches
batches_joined zero [] are le = refl
batches_joined (suc n) [] are le = refl
batches_joined zero (b ∷ bs) are le = absurd (omega (arith, le))
batches_joined (suc n) (b ∷ bs) are le = in_front n (b ++ batch_bytes bs) b (batch_bytes bs) refl are.0 ∙ one_more (whole_batches n (batch_bytes bs)) b bs (batches_joined n bs are.1 (omega (arith, le)))

are_taken : (n : ℕ) (from : ℤ) (bs : List (List ℕ)) → IsLog from bs → AreBatches (take n bs)
are_taken zero from [] log = tt
are_taken zero from (b ∷ bs) log = tt
are_taken (suc n) from [] log = tt
are_taken (suc n) from (b ∷ bs) log = (log.0, are_taken n (end_offset_of b) bs log.3)

are_by : (t : Bool) (n : ℕ) (off : ℤ) (b : List ℕ) (bs : List (List ℕ)) (from : ℤ) → IsLog from (b ∷ bs) → AreBatches (batches_given n off bs) → AreBatches (take (suc n) (cond t (b ∷ bs) (batches_from off bs)))
are_by true n off b bs from log next = (log.0, are_taken n (end_offset_of b) bs log.3)
are_by false n off b bs from log next = next

are_answered : (n : ℕ) (off from : ℤ) (bs : List (List ℕ)) → IsLog from bs → AreBatches (batches_given n off bs)
unfolding batches_from
are_answered n off from [] log = tt
are_answered n off from (b ∷ bs) log = are_by (int_lt off (end_offset_of b)) n off b bs from log (are_answered n off (end_offset_of b) bs log.3)

joined_len : (bs : List (List ℕ)) → AreBatches bs → length bs ≤ length (batch_bytes bs)
joined_len [] are = omega arith
joined_len (b ∷ bs) are = omega (arith, length-append b (batch_bytes bs), batch_long b are.0, joined_len bs are.1)

-- the bytes of an answer are found as its batches
pub found_answered : (n : ℕ) (f : Found) (from : ℤ) (bs : List (List ℕ)) → IsLog from bs → found_in (batch_bytes (batches_given n f.offset bs)) f ≡ with_batches (batches_given n f.offset bs) f
found_answered n f from bs log =
    let are : AreBatches (batches_given n f.offset bs) = are_answered n f.offset from bs log in
    ap (λ o. option_and_then (λ batches. with_batches batches f) o) (batches_joined (length (batch_bytes (batches_given n f.offset bs))) (batches_given n f.offset bs) are (joined_len (batches_given n f.offset bs) are))

-- an answer with a batch has bytes
pub joined_some : (b : List ℕ) (bs : List (List ℕ)) → AreBatches (b ∷ bs) → batch_bytes (b ∷ bs) ≡ [] → ⊥
joined_some b bs are e =
    let none : length (batch_bytes (b ∷ bs)) ≡ 0 = ap length e in
    absurd (omega (arith, length-append b (batch_bytes bs), batch_long b are.0, none))

pub answered_some : (n : ℕ) (off from : ℤ) (bs : List (List ℕ)) (b : List ℕ) (read : List (List ℕ)) → IsLog from bs → batches_given n off bs ≡ b ∷ read → batch_bytes (batches_given n off bs) ≡ [] → ⊥
answered_some n off from bs b read log is none = joined_some b read (subst AreBatches is (are_answered n off from bs log)) (sym (ap batch_bytes is) ∙ none)

-- a fetch is answered no more than a frame has room for
one_small : (t : Bool) (off : ℤ) (b : List ℕ) (bs : List (List ℕ)) → IsBatch b → length (batch_bytes (batches_given 0 off bs)) ≤ 1048588 → length (batch_bytes (take 1 (cond t (b ∷ bs) (batches_from off bs)))) ≤ 1048588
one_small true off b bs is next = omega (arith, ap length (append-nil b), batch_small b is)
one_small false off b bs is next = next

first_small : (off from : ℤ) (bs : List (List ℕ)) → IsLog from bs → length (batch_bytes (batches_given 0 off bs)) ≤ 1048588
unfolding batches_from
first_small off from [] log = omega arith
first_small off from (b ∷ bs) log = one_small (int_lt off (end_offset_of b)) off b bs log.0 (first_small off (end_offset_of b) bs log.3)

fitting_by : (t : Bool) (n : ℕ) (off from : ℤ) (bs : List (List ℕ)) → IsLog from bs → ltb 1048588 (length (batch_bytes (batches_given n off bs))) ≡ t → length (batch_bytes (batches_given (cond t 0 n) off bs)) ≤ 1048588
fitting_by true n off from bs log e = first_small off from bs log
fitting_by false n off from bs log e = ltb-false _ _ e

pub fitting_small : (n : ℕ) (off from : ℤ) (bs : List (List ℕ)) → IsLog from bs → length (batch_bytes (batches_given (fitting n off bs) off bs)) ≤ 1048588
fitting_small n off from bs log = fitting_by (ltb 1048588 (length (batch_bytes (batches_given n off bs)))) n off from bs log refl
