-- A partition that a consumer reads: batches that are added at its end, and what a fetch answers of them.
use Rattle.std.specs.Prelude.{ℕ, suc, ℤ, pos, ◌^◌, ◌≤ℤ◌, ◌<ℤ◌, int_lt, if◌then◌else◌, List, [], ◌∷◌, take}
use Rattle.std.specs.List.{flat_map}
use Rattle.kb_batch.specs.declared.record.RecordView.{RecordView}
use Rattle.kb_batch.specs.Header.{base_offset_of}
use Rattle.kb_batch.specs.Batch.{IsBatch}
use Rattle.kb_client.specs.Lines.{end_offset_of, records_from}

-- Accepted batches, each at or behind the end of the one before, and below the end of INT64. The first is at an offset or above.
abbrev pub IsLog : ℤ → List (List ℕ) → Type 0
IsLog from [] = Unit {0}
IsLog from (batch ∷ batches) =
    IsBatch batch × (from ≤ℤ base_offset_of batch) × (end_offset_of batch <ℤ pos (2 ^ 63)) × IsLog (end_offset_of batch) batches

-- the offset behind the last of some batches, which begin at an offset or above
abbrev pub end_of_log : ℤ → List (List ℕ) → ℤ
end_of_log from [] = from
end_of_log from (batch ∷ batches) = end_of_log (end_offset_of batch) batches

-- a partition: its first offset, the offset behind its last record, and its batches
pub record Log : Type 0 where
  pub start : ℤ
  pub end : ℤ
  pub batches : List (List ℕ)

-- the batch that holds an offset, or else the first above it, and those behind it; none at the end
unfoldable pub batches_from : ℤ → List (List ℕ) → List (List ℕ)
batches_from offset [] = []
batches_from offset (batch ∷ batches) = if int_lt offset (end_offset_of batch) then batch ∷ batches else batches_from offset batches

-- the records at an offset and above
abbrev pub records_of_log : ℤ → List (List ℕ) → List RecordView
records_of_log offset batches = flat_map (λ batch. records_from offset batch) batches

-- the bytes of some batches, one after another
abbrev pub batch_bytes : List (List ℕ) → List ℕ
batch_bytes batches = flat_map (λ batch. batch) batches

-- what a fetch from an offset is answered: one batch, and so many more
abbrev pub batches_given : ℕ → ℤ → List (List ℕ) → List (List ℕ)
batches_given n offset batches = take (suc n) (batches_from offset batches)
