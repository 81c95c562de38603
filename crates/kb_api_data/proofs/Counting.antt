-- A front of an answer, the records behind it and their length are the whole answer.
use Rattle.std.proofs.Common.{◌≡◌, ◌∙◌, ◌-◌, ◌++◌, ◌∷◌, ℕ, List, [], length, take, drop, None, append_assoc, length-append, refl, sym, ap, arith}
use Rattle.std.proofs.lemmas.List.{take_at, drop_at}
use Rattle.std.specs.Int.{w32, to_be_bytes}
use Rattle.kb_wire.specs.Codec.{int, int16, int32, int64, nullable, nullable_counted, nullable_array, items, octets}
use Rattle.kb_api_data.specs.declared.fetch_records.FetchPartitionFront.{FetchPartitionFront}
use Rattle.kb_api_data.specs.declared.fetch_records_v5.FetchPartitionFrontV5.{FetchPartitionFrontV5}
use Rattle.kb_api_data.specs.Layouts.{fetch_partition_reply, fetch_partition_reply_v5, aborted_transaction}
use Rattle.kb_api_data.specs.FetchRecords.{answer_front, answer_front_v5, answer_written, answer_written_v5}

-- the fields before the length of the records
unfoldable fields : FetchPartitionFront → List ℕ
fields f = int32.written f.partition ++ (int16.written f.error_code ++ (int64.written f.high_watermark ++ (int64.written f.last_stable_offset ++ (nullable_array aborted_transaction).written None)))

in_parts : (f : FetchPartitionFront) (records : List ℕ) → answer_written f records ≡ fields f ++ (to_be_bytes w32 (length records) ++ records)
unfolding fields fetch_partition_reply int nullable nullable_counted items octets
in_parts f records = refl

-- the same, of version 5
unfoldable fields_v5 : FetchPartitionFrontV5 → List ℕ
fields_v5 f = int32.written f.partition ++ (int16.written f.error_code ++ (int64.written f.high_watermark ++ (int64.written f.last_stable_offset ++ (int64.written f.log_start_offset ++ (nullable_array aborted_transaction).written None))))

in_parts_v5 : (f : FetchPartitionFrontV5) (records : List ℕ) → answer_written_v5 f records ≡ fields_v5 f ++ (to_be_bytes w32 (length records) ++ records)
unfolding fields_v5 fetch_partition_reply_v5 int nullable nullable_counted items octets
in_parts_v5 f records = refl

-- the length is set behind what is before it
length_set : (s before fields zeros records : List ℕ) (start : ℕ) → s ≡ (before ++ (fields ++ zeros)) ++ records → start ≡ length (before ++ (fields ++ zeros)) → length zeros ≡ 4 → take (start - 4) s ++ to_be_bytes w32 (length s - start) ++ drop start s ≡ before ++ (fields ++ (to_be_bytes w32 (length records) ++ records))
length_set s before fields zeros records start is at four =
    let whole : s ≡ (before ++ fields) ++ (zeros ++ records) = is ∙ ap (λ t. t ++ records) (sym (append_assoc before fields zeros)) ∙ append_assoc (before ++ fields) zeros records in
    let long : length (before ++ fields) ≡ start - 4 = omega (arith, at, four, length-append before (fields ++ zeros), length-append fields zeros, length-append before fields) in
    let head : take (start - 4) s ≡ before ++ fields = ap (take (start - 4)) whole ∙ take_at (before ++ fields) (zeros ++ records) (start - 4) long in
    let tail : drop start s ≡ records = ap (drop start) is ∙ drop_at (before ++ (fields ++ zeros)) records start (sym at) in
    let count : length s - start ≡ length records = omega (arith, at, ap length is, length-append (before ++ (fields ++ zeros)) records) in
    ap (λ t. t ++ to_be_bytes w32 (length s - start) ++ drop start s) head
    ∙ ap (λ n. (before ++ fields) ++ to_be_bytes w32 n ++ drop start s) count
    ∙ ap (λ t. (before ++ fields) ++ to_be_bytes w32 (length records) ++ t) tail
    ∙ append_assoc (before ++ fields) (to_be_bytes w32 (length records)) records
    ∙ append_assoc before fields (to_be_bytes w32 (length records) ++ records)

-- a front and records become fields, their length and the records
set_behind : (s before front fields records : List ℕ) (start : ℕ) → front ≡ fields ++ (0 ∷ 0 ∷ 0 ∷ 0 ∷ []) → s ≡ before ++ front ++ records → start ≡ length (before ++ front) → take (start - 4) s ++ to_be_bytes w32 (length s - start) ++ drop start s ≡ before ++ (fields ++ (to_be_bytes w32 (length records) ++ records))
set_behind s before front fields records start parts is at =
    length_set s before fields (0 ∷ 0 ∷ 0 ∷ 0 ∷ []) records start (is ∙ ap (λ t. (before ++ t) ++ records) parts) (at ∙ ap (λ t. length (before ++ t)) parts) refl

pub counted : (s before records : List ℕ) (f : FetchPartitionFront) (start : ℕ) → s ≡ before ++ answer_front f ++ records → start ≡ length (before ++ answer_front f) → take (start - 4) s ++ to_be_bytes w32 (length s - start) ++ drop start s ≡ before ++ answer_written f records
counted s before records f start is at =
    set_behind s before (answer_front f) (fields f) records start (in_parts f []) is at ∙ ap (λ t. before ++ t) (sym (in_parts f records))

pub counted_v5 : (s before records : List ℕ) (f : FetchPartitionFrontV5) (start : ℕ) → s ≡ before ++ answer_front_v5 f ++ records → start ≡ length (before ++ answer_front_v5 f) → take (start - 4) s ++ to_be_bytes w32 (length s - start) ++ drop start s ≡ before ++ answer_written_v5 f records
counted_v5 s before records f start is at =
    set_behind s before (answer_front_v5 f) (fields_v5 f) records start (in_parts_v5 f []) is at ∙ ap (λ t. before ++ t) (sym (in_parts_v5 f records))
