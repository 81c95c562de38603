-- The lines of a partition, as they are found in its batches.
use Rattle.std.specs.Prelude.{unsigned_abs, ◌≡◌, ◌-◌, ◌&&◌, ◌+ℤ◌, ◌-ℤ◌, ◌^◌, int_lt, ℕ, zero, suc, ℤ, pos, Bool, true, false, List, [], ◌∷◌}
use Rattle.std.specs.Prelude.{◌++◌, length, take, drop, Option, Some, None, unwrap_or, min, option_map, option_and_then, Result, Ok, Err}
use Rattle.std.specs.Prelude.{if◌then◌else◌}
use Rattle.std.specs.List.{flat_map}
use Rattle.kb_batch.specs.declared.record.RecordView.{RecordView}
use Rattle.kb_batch.specs.Header.{base_offset_of}
use Rattle.kb_batch.specs.Batch.{count_of, front}
use Rattle.kb_batch.specs.Scan.{views_of}

-- How far they were found.
pub record Found : Type 0 where
  -- the offset from which on they were not looked for
  pub offset : ℤ
  -- how many more are wanted, if not all
  pub wanted : Option ℕ
  -- those that were not taken yet, as text
  pub text : List ℕ

-- the batches that some bytes are, one after another, where they are whole ones and no more than n
unfoldable pub whole_batches : ℕ → List ℕ → Option (List (List ℕ))
whole_batches n [] = Some []
whole_batches zero (b ∷ s) = None
whole_batches (suc n) (b ∷ s) =
    option_and_then (λ batch. option_map (λ batches. batch ∷ batches) (whole_batches n (drop (length batch) (b ∷ s)))) (front (b ∷ s))

-- the offset behind a batch
abbrev pub end_offset_of : List ℕ → ℤ
end_offset_of batch = base_offset_of batch +ℤ pos (count_of batch)

-- a batch has records at the offset or above, and its offsets are INT64
abbrev pub is_ahead : ℤ → List ℕ → Bool
is_ahead offset batch = int_lt offset (end_offset_of batch) && int_lt (end_offset_of batch) (pos (2 ^ 63))

-- how far an offset is above another
abbrev pub above : ℤ → ℤ → ℕ
above a b = if int_lt b a then unsigned_abs (a -ℤ b) else 0

-- its records at the offset and above
abbrev pub records_from : ℤ → List ℕ → List RecordView
records_from offset batch = drop (above offset (base_offset_of batch)) (views_of batch)

-- the first of some things, or all
abbrev pub at_most : {A : Type 0} → Option ℕ → List A → List A
at_most None xs = xs
at_most (Some n) xs = take n xs

-- how many are wanted once n more were found
abbrev pub less : Option ℕ → ℕ → Option ℕ
less None n = None
less (Some wanted) n = Some (wanted - n)

-- how many of so many are found
abbrev pub given_of : Option ℕ → ℕ → ℕ
given_of None n = n
given_of (Some wanted) n = min wanted n

-- a value and a line feed: null is an empty line
abbrev pub line_text : RecordView → List ℕ
line_text r = unwrap_or r.value [] ++ 10 ∷ []

-- the lines of a batch are found
abbrev pub with_batch : List ℕ → Found → Found
with_batch batch f = record {
  offset = end_offset_of batch;
  wanted = less f.wanted (length (records_from f.offset batch));
  text = f.text ++ flat_map line_text (at_most f.wanted (records_from f.offset batch));
}

-- the lines of some batches are found, each of which has to be ahead
abbrev pub with_batches : List (List ℕ) → Found → Option Found
with_batches [] f = Some f
with_batches (batch ∷ batches) f = if is_ahead f.offset batch then with_batches batches (with_batch batch f) else None

-- so are those of the batches that some bytes are
abbrev pub with_at_most : ℕ → List ℕ → Found → Option Found
with_at_most n bytes f = option_and_then (λ batches. with_batches batches f) (whole_batches n bytes)

abbrev pub found_in : List ℕ → Found → Option Found
found_in bytes f = with_at_most (length bytes) bytes f

-- What read answers and leaves.
abbrev pub ReadsBatches : {E : Type 0} → Found → List ℕ → Result Bool E → Found → Type 0
ReadsBatches old bytes (Ok true) new = found_in bytes old ≡ Some new
ReadsBatches old bytes (Ok false) new = (found_in bytes old ≡ None) × (new ≡ old)
ReadsBatches old bytes (Err e) new = new ≡ old

-- whether the batches that some bytes are were found
abbrev pub Comes : Found → List ℕ → Bool → Found → Type 0
Comes old bytes true new = found_in bytes old ≡ Some new
Comes old bytes false new = found_in bytes old ≡ None

-- the same as ReadsBatches without what is left where they are no batches
abbrev pub ComesOnOk : {E : Type 0} → Found → List ℕ → Result Bool E → Found → Type 0
ComesOnOk old bytes (Ok done) new = Comes old bytes done new
ComesOnOk old bytes (Err e) new = Unit {0}

abbrev pub has_no_bytes : List ℕ → Bool
has_no_bytes [] = true
has_no_bytes (b ∷ s) = false
