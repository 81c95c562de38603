-- What becomes of a producer's batch, by the batches that are in the partition's list now (Kafka documentation, "Idempotent Producer").
use Rattle.std.specs.Prelude.{ℕ, ℤ, pos, negsuc, ◌+ℤ◌, List, Bool, ◌&&◌, filter, take, reverse, if◌then◌else◌, int_lt, slice_get, Option}
use Rattle.std.specs.Prelude.{Some, None}
use Rattle.std.specs.List.{find}
use Rattle.std.specs.Ordering.{int_eq}
use Rattle.std.specs.Int.{int_rem_euclid}
use Rattle.kb_producers.specs.declared.kept.Kept.{Kept}
use Rattle.kb_producers.specs.declared.verdict.Verdict.{Verdict}
use Rattle.kb_producers.specs.declared.verdict.Verdict.TheVariants.{Append, Repeat, Refuse}
use Rattle.kb_producers.specs.declared.verdict.TheConstants.{UNKNOWN_PRODUCER_ID, INVALID_PRODUCER_EPOCH, OUT_OF_ORDER_SEQUENCE_NUMBER}

-- How many batches of a producer a repeat is looked for in.
abbrev pub REMEMBERED : ℕ
REMEMBERED = 5

-- The batches of a producer, oldest first.
abbrev pub batches_of : ℤ → List Kept → List Kept
batches_of id list = filter (λ (k : Kept). int_eq k.producer_id id) list

-- Its last batches, the newest first.
abbrev pub newest_of : ℤ → List Kept → List Kept
newest_of id list = take REMEMBERED (reverse (batches_of id list))

-- The sequence of the last of so many records, of which the first has that one: after 2147483647 comes 0.
abbrev pub last_sequence : ℤ → ℕ → ℤ
last_sequence base count = int_rem_euclid (base +ℤ pos count +ℤ negsuc 0) (pos 2147483648)

-- The sequence that follows another.
abbrev pub next_sequence : ℤ → ℤ
next_sequence last = int_rem_euclid (last +ℤ pos 1) (pos 2147483648)

-- The batch comes again: it has the same epoch, and the same first and last sequence.
abbrev pub is_repeat : Kept → Kept → Bool
is_repeat batch k =
    int_eq k.producer_epoch batch.producer_epoch && int_eq k.base_sequence batch.base_sequence && int_eq k.last_sequence batch.last_sequence

-- It follows the last one, or is refused.
abbrev pub following : ℤ → ℤ → Verdict
following sequence next = if int_eq sequence next then Append else Refuse OUT_OF_ORDER_SEQUENCE_NUMBER

-- Of the same epoch: a repeat is answered with its offset, and else the sequence has to follow.
abbrev pub judged_same : Kept → Kept → Option Kept → Verdict
judged_same batch last (Some k) = Repeat k.base_offset
judged_same batch last None = following batch.base_sequence (next_sequence last.last_sequence)

-- It begins at sequence 0, or is refused so.
abbrev pub begins : Kept → ℤ → Verdict
begins batch fault = if int_eq batch.base_sequence (pos 0) then Append else Refuse fault

-- By the newest of the producer's last batches, if there is one. A first batch, and the first of a new epoch, begin at sequence 0; an
-- older epoch is refused.
abbrev pub judged_by : Kept → List Kept → Option Kept → Verdict
judged_by batch recent None = begins batch UNKNOWN_PRODUCER_ID
judged_by batch recent (Some last) =
    if int_lt batch.producer_epoch last.producer_epoch then Refuse INVALID_PRODUCER_EPOCH
    else if int_lt last.producer_epoch batch.producer_epoch then begins batch OUT_OF_ORDER_SEQUENCE_NUMBER
    else judged_same batch last (find (is_repeat batch) recent)

unfoldable pub judged : Kept → List Kept → Verdict
judged batch recent = judged_by batch recent (slice_get recent 0)

-- What becomes of a batch. One without a producer id is not judged.
abbrev pub verdict : List Kept → Kept → Verdict
verdict list batch = if int_eq batch.producer_id (negsuc 0) then Append else judged batch (newest_of batch.producer_id list)
