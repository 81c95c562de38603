-- What idempotence keeps of a partition's batches.
use Rattle.std.specs.Prelude.{ℕ, negsuc, List, Bool, not, filter, map}
use Rattle.std.specs.Ordering.{int_eq}
use Rattle.kb_batch.specs.Batch.{count_of}
use Rattle.kb_batch.specs.Header.{producer_id_of, producer_epoch_of, base_sequence_of, base_offset_of}
use Rattle.kb_producers.specs.declared.kept.Kept.{Kept}
use Rattle.kb_producers.specs.Verdict.{last_sequence}

-- What is kept of a batch.
abbrev pub kept_of : List ℕ → Kept
kept_of s = record {
  producer_id = producer_id_of s;
  producer_epoch = producer_epoch_of s;
  base_sequence = base_sequence_of s;
  last_sequence = last_sequence (base_sequence_of s) (count_of s);
  base_offset = base_offset_of s;
  record_count = count_of s;
}

-- The producer has an id.
abbrev pub is_idempotent : Kept → Bool
is_idempotent k = not (int_eq k.producer_id (negsuc 0))

-- What is kept of a list of batches: those of producers that have an id.
abbrev pub kept_all : List (List ℕ) → List Kept
kept_all batches = filter is_idempotent (map kept_of batches)
