-- What a broker reads in a fetch request, and a consumer in its reply.
use Rattle.std.proofs.Common.{◌≡◌, ℕ, ◌+◌, ◌≤◌, Bool, true, false, List, [], ◌∷◌, ◌++◌, length, Some, None, Ok, refl, ap, arith, lit<}
use Rattle.std.specs.Prelude.{ℤ, pos, negsuc, FitsSigned, IsUtf8}
use Rattle.std.specs.Int.{w16, w32, w64}
use Rattle.std.proofs.lemmas.List.{length-append, append-nil}
use Rattle.std.proofs.lemmas.List.Elements.{All-cons, All-nil}
use Rattle.kb_wire.specs.Codec.{int, int8, int16, int32, int64, count, counted, nullable_counted, sized, nullable, octets, utf8, items, string, nullable_blob, array, nullable_array, whole, ◌⊗◌}
use Rattle.kb_wire.specs.Fits.{string_fits, array_fits, nullable_blob_fits}
use Rattle.kb_wire.specs.Laws.{IsLawful, int16_lawful, int32_lawful, string_lawful, nullable_blob_lawful, nullable_array_lawful, counted_lawful, pair_lawful}
use Rattle.kb_api_data.specs.Layouts.{fetch_request_v5, fetch_topic_v5, fetch_partition_v5, fetch_reply_v5, fetch_topic_reply_v5, fetch_partition_reply_v5, aborted_transaction}
use Rattle.kb_api_data.specs.Lawful.{fetch_request_v5_lawful, fetch_partition_reply_v5_lawful, aborted_transaction_lawful}
use Rattle.kb_api_data.specs.declared.fetch_v5.FetchRequestV5.{FetchRequestV5}
use Rattle.kb_api_data.specs.declared.fetch_v5.FetchTopicV5.{FetchTopicV5}
use Rattle.kb_api_data.specs.declared.fetch_v5.FetchPartitionV5.{FetchPartitionV5}
use Rattle.kb_api_data.specs.declared.fetch_v5.FetchPartitionReplyV5.{FetchPartitionReplyV5}
use Rattle.kb_client.specs.Sent.{Target}
use Rattle.kb_client.specs.Fetched.{fetch_request, fetch_topics, patience, one_fetched, fetched_partition}
use Rattle.kb_client_spec.specs.Fetching.{Fetch, if_fetch, partition_reply, reply_body}
use Rattle.kb_client_spec.proofs.Texts.{whole_spelled, whole_written, wrapped, wrapped_spelled, pair_len, int16_len, int32_len, int64_len, string_len, some_blob_len, one_len}

-- ---- the request

pub int8_len : (z : ℤ) → length (int8.written z) ≡ 1
unfolding int
int8_len z = refl

unfoldable pub ask : Target → ℤ → Bool → FetchRequestV5
ask t offset follow = record { replica_id = negsuc 0; max_wait_ms = patience follow; min_bytes = pos 1; max_bytes = pos 1048576; isolation_level = pos 0; topics = fetch_topics t offset }

unfoldable pub fetch_body : Target → ℤ → Bool → List ℕ
fetch_body t offset follow = fetch_request_v5.written (ask t offset follow)

abbrev asked_partition : Target → ℤ → FetchPartitionV5
asked_partition t offset = record { partition = t.partition; fetch_offset = offset; log_start_offset = negsuc 0; partition_max_bytes = pos 1048576 }

abbrev asked_topic : Target → ℤ → FetchTopicV5
asked_topic t offset = record { topic = t.topic; partitions = asked_partition t offset ∷ [] }

partition_len : (t : Target) (offset : ℤ) → length (fetch_partition_v5.written (asked_partition t offset)) ≡ 24
unfolding fetch_partition_v5
partition_len t offset = omega (arith, pair_len int32 (int64 ⊗ int64 ⊗ int32) t.partition (offset, (negsuc 0, pos 1048576)), pair_len int64 (int64 ⊗ int32) offset (negsuc 0, pos 1048576), pair_len int64 int32 (negsuc 0) (pos 1048576), int32_len t.partition, int64_len offset, int64_len (negsuc 0), int32_len (pos 1048576))

topic_len : (t : Target) (offset : ℤ) → length (fetch_topic_v5.written (asked_topic t offset)) ≡ 30 + length t.topic
unfolding fetch_topic_v5
topic_len t offset = omega (arith, pair_len string (array fetch_partition_v5) t.topic (asked_partition t offset ∷ []), string_len t.topic, one_len fetch_partition_v5 (asked_partition t offset), partition_len t offset)

pub fetch_short : (t : Target) (offset : ℤ) (follow : Bool) → length t.topic ≤ 255 → length (fetch_body t offset follow) ≤ 2000000
unfolding fetch_body ask fetch_request_v5
fetch_short t offset follow short = omega (
  arith,
  pair_len int32 (int32 ⊗ int32 ⊗ int32 ⊗ int8 ⊗ array fetch_topic_v5) (negsuc 0) (patience follow, (pos 1, (pos 1048576, (pos 0, fetch_topics t offset)))),
  pair_len int32 (int32 ⊗ int32 ⊗ int8 ⊗ array fetch_topic_v5) (patience follow) (pos 1, (pos 1048576, (pos 0, fetch_topics t offset))),
  pair_len int32 (int32 ⊗ int8 ⊗ array fetch_topic_v5) (pos 1) (pos 1048576, (pos 0, fetch_topics t offset)),
  pair_len int32 (int8 ⊗ array fetch_topic_v5) (pos 1048576) (pos 0, fetch_topics t offset),
  pair_len int8 (array fetch_topic_v5) (pos 0) (fetch_topics t offset),
  int32_len (negsuc 0),
  int32_len (patience follow),
  int32_len (pos 1),
  int32_len (pos 1048576),
  int8_len (pos 0),
  one_len fetch_topic_v5 (asked_topic t offset),
  topic_len t offset,
  short,
)

patience_fits : (follow : Bool) → FitsSigned w32 (patience follow)
patience_fits true = record { sfits = lit< tt }
patience_fits false = record { sfits = lit< tt }

partition_ranged : (t : Target) (offset : ℤ) → FitsSigned w32 t.partition → FitsSigned w64 offset → fetch_partition_v5.InRange (asked_partition t offset)
unfolding fetch_partition_v5 int
partition_ranged t offset p o = (p, (o, (record { sfits = lit< tt }, record { sfits = lit< tt })))

partition_fits : (t : Target) (offset : ℤ) → fetch_partition_v5.Fits (asked_partition t offset)
unfolding fetch_partition_v5 int
partition_fits t offset = (tt, (tt, (tt, tt)))

topic_ranged : (t : Target) (offset : ℤ) → IsUtf8 t.topic → FitsSigned w32 t.partition → FitsSigned w64 offset → fetch_topic_v5.InRange (asked_topic t offset)
unfolding fetch_topic_v5 sized counted utf8 items
topic_ranged t offset text p o = ((tt, text), (tt, All-cons fetch_partition_v5.InRange (asked_partition t offset) [] (partition_ranged t offset p o) (All-nil fetch_partition_v5.InRange)))

topic_fits : (t : Target) (offset : ℤ) → length t.topic ≤ 255 → fetch_topic_v5.Fits (asked_topic t offset)
unfolding fetch_topic_v5
topic_fits t offset short = (string_fits t.topic (omega (arith, short)), array_fits fetch_partition_v5 (asked_partition t offset ∷ []) (lit< tt) (All-cons fetch_partition_v5.Fits (asked_partition t offset) [] (partition_fits t offset) (All-nil fetch_partition_v5.Fits)))

ask_ranged : (t : Target) (offset : ℤ) (follow : Bool) → IsUtf8 t.topic → FitsSigned w32 t.partition → FitsSigned w64 offset → fetch_request_v5.InRange (ask t offset follow)
unfolding ask fetch_request_v5 int sized counted items
ask_ranged t offset follow text p o = (record { sfits = lit< tt }, (patience_fits follow, (record { sfits = lit< tt }, (record { sfits = lit< tt }, (record { sfits = lit< tt }, (tt, All-cons fetch_topic_v5.InRange (asked_topic t offset) [] (topic_ranged t offset text p o) (All-nil fetch_topic_v5.InRange)))))))

ask_fits : (t : Target) (offset : ℤ) (follow : Bool) → length t.topic ≤ 255 → fetch_request_v5.Fits (ask t offset follow)
unfolding ask fetch_request_v5 int
ask_fits t offset follow short = (tt, (tt, (tt, (tt, (tt, array_fits fetch_topic_v5 (fetch_topics t offset) (lit< tt) (All-cons fetch_topic_v5.Fits (asked_topic t offset) [] (topic_fits t offset short) (All-nil fetch_topic_v5.Fits)))))))

pub fetch_read : (t : Target) (offset : ℤ) (follow : Bool) → length t.topic ≤ 255 → IsUtf8 t.topic → FitsSigned w32 t.partition → FitsSigned w64 offset → whole fetch_request_v5 (fetch_request_v5.written (fetch_request t offset follow)) ≡ Ok (fetch_request t offset follow)
unfolding ask
fetch_read t offset follow short text p o = whole_written fetch_request_v5 fetch_request_v5_lawful (ask t offset follow) (ask_ranged t offset follow text p o) (ask_fits t offset follow short)

abbrev pub fetch_at : Target → ℤ → Fetch
fetch_at t offset = record { topic = t.topic; index = t.partition; offset = offset }

pub fetch_asked : (t : Target) (offset : ℤ) (follow : Bool) → length t.topic ≤ 255 → IsUtf8 t.topic → FitsSigned w32 t.partition → FitsSigned w64 offset → if_fetch (whole fetch_request_v5 (fetch_body t offset follow)) ≡ Some (fetch_at t offset)
unfolding fetch_body ask
fetch_asked t offset follow short text p o = ap if_fetch (whole_written fetch_request_v5 fetch_request_v5_lawful (ask t offset follow) (ask_ranged t offset follow text p o) (ask_fits t offset follow short))

-- ---- the reply

one_fetched_lawful : IsLawful one_fetched
one_fetched_lawful = pair_lawful int32_lawful (pair_lawful (counted_lawful int32 int32_lawful) (pair_lawful string_lawful (pair_lawful (counted_lawful int32 int32_lawful) fetch_partition_reply_v5_lawful)))

partition_text : ℤ → ℤ → ℤ → ℤ → List ℕ → List ℕ
partition_text index code end start records = fetch_partition_reply_v5.written (partition_reply index code end start records)

unfoldable pub partition_value : ℤ → ℤ → ℤ → ℤ → List ℕ → FetchPartitionReplyV5
partition_value index code end start records = record { partition = index; error_code = code; high_watermark = wrapped end; last_stable_offset = wrapped end; log_start_offset = wrapped start; aborted_transactions = None; records = Some records }

none_spelled : (nullable_array aborted_transaction).Spells ((nullable_array aborted_transaction).written None) None
unfolding int nullable nullable_counted
none_spelled = (nullable_array_lawful aborted_transaction aborted_transaction_lawful).again None tt (tt, record { sfits = lit< tt })

records_spelled : (records : List ℕ) → length records ≤ 1048588 → nullable_blob.Spells (nullable_blob.written (Some records)) (Some records)
unfolding nullable nullable_counted octets
records_spelled records small = nullable_blob_lawful.again (Some records) (tt, tt) (nullable_blob_fits records (omega (arith, small)))

code_spelled : (code : ℤ) → FitsSigned w16 code → int16.Spells (int16.written code) code
unfolding int
code_spelled code fits = int16_lawful.again code fits tt

zero32 : int32.Spells (int32.written (pos 0)) (pos 0)
unfolding int
zero32 = int32_lawful.again (pos 0) (record { sfits = lit< tt }) tt

index_spelled : (index : ℤ) → FitsSigned w32 index → int32.Spells (int32.written index) index
unfolding int
index_spelled index fits = int32_lawful.again index fits tt

partition_spelled : (index code end start : ℤ) (records : List ℕ) → FitsSigned w32 index → FitsSigned w16 code → length records ≤ 1048588 → fetch_partition_reply_v5.Spells (partition_text index code end start records) (partition_value index code end start records)
unfolding fetch_partition_reply_v5 partition_text partition_value
partition_spelled index code end start records fits coded small =
    let s = int64.written start in
    let e = int64.written end in
    let a = (nullable_array aborted_transaction).written None in
    let r = nullable_blob.written (Some records) in (
      int32.written index,
      int16.written code ++ (e ++ (e ++ (s ++ (a ++ r)))),
      refl,
      index_spelled index fits,
      (
        int16.written code,
        e ++ (e ++ (s ++ (a ++ r))),
        refl,
        code_spelled code coded,
        (
          e,
          e ++ (s ++ (a ++ r)),
          refl,
          wrapped_spelled end,
          (
            e,
            s ++ (a ++ r),
            refl,
            wrapped_spelled end,
            (s, a ++ r, refl, wrapped_spelled start, (a, r, refl, none_spelled, records_spelled records small)),
          ),
        ),
      ),
    )

regrouped : (t c n d p : List ℕ) → t ++ (c ++ ((n ++ (d ++ (p ++ []))) ++ [])) ≡ t ++ (c ++ (n ++ (d ++ p)))
regrouped t c n d p = simp append-nil

abbrev pub replied : Fetch → ℤ → ℤ → ℤ → List ℕ → List ℕ
replied f code end start records = reply_body f (partition_reply f.index code end start records)

replied_is : (f : Fetch) (code end start : ℤ) (records : List ℕ) → replied f code end start records ≡ int32.written (pos 0) ++ ((count w32).written 1 ++ (string.written f.topic ++ ((count w32).written 1 ++ partition_text f.index code end start records)))
unfolding fetch_reply_v5 fetch_topic_reply_v5 partition_text sized items
replied_is f code end start records = regrouped (int32.written (pos 0)) ((count w32).written 1) (string.written f.topic) ((count w32).written 1) (partition_text f.index code end start records)

one_spelled : (count w32).Spells ((count w32).written 1) 1
unfolding int counted
one_spelled = int32_lawful.again (pos 1) (record { sfits = lit< tt }) tt

topic_spelled : (name : List ℕ) → length name ≤ 255 → IsUtf8 name → string.Spells (string.written name) name
unfolding sized counted utf8
topic_spelled name short text = string_lawful.again name (tt, text) (string_fits name (omega (arith, short)))

replied_spelled : (f : Fetch) (code end start : ℤ) (records : List ℕ) → length f.topic ≤ 255 → IsUtf8 f.topic → FitsSigned w32 f.index → FitsSigned w16 code → length records ≤ 1048588 → one_fetched.Spells (replied f code end start records) (pos 0, (1, (f.topic, (1, partition_value f.index code end start records))))
replied_spelled f code end start records short text fits coded small =
    let t = int32.written (pos 0) in
    let c = (count w32).written 1 in
    let n = string.written f.topic in
    let p = partition_text f.index code end start records in (
      t,
      c ++ (n ++ (c ++ p)),
      replied_is f code end start records,
      zero32,
      (
        c,
        n ++ (c ++ p),
        refl,
        one_spelled,
        (
          n,
          c ++ p,
          refl,
          topic_spelled f.topic short text,
          (c, p, refl, one_spelled, partition_spelled f.index code end start records fits coded small),
        ),
      ),
    )

pub replied_heard : (f : Fetch) (code end start : ℤ) (records : List ℕ) → length f.topic ≤ 255 → IsUtf8 f.topic → FitsSigned w32 f.index → FitsSigned w16 code → length records ≤ 1048588 → fetched_partition (replied f code end start records) ≡ Ok (partition_value f.index code end start records)
replied_heard f code end start records short text fits coded small =
    let read : whole one_fetched (replied f code end start records) ≡ Ok (pos 0, (1, (f.topic, (1, partition_value f.index code end start records)))) = whole_spelled one_fetched one_fetched_lawful (replied f code end start records) (pos 0, (1, (f.topic, (1, partition_value f.index code end start records)))) (replied_spelled f code end start records short text fits coded small) in
    rw read refl

no_array_len : length ((nullable_array aborted_transaction).written None) ≡ 4
unfolding nullable nullable_counted
no_array_len = int32_len (negsuc 0)

partition_text_len : (index code end start : ℤ) (records : List ℕ) → length (partition_text index code end start records) ≡ 38 + length records
unfolding partition_text fetch_partition_reply_v5
partition_text_len index code end start records = omega (
  arith,
  pair_len int32 (int16 ⊗ int64 ⊗ int64 ⊗ int64 ⊗ nullable_array aborted_transaction ⊗ nullable_blob) index (code, (end, (end, (start, (None, Some records))))),
  pair_len int16 (int64 ⊗ int64 ⊗ int64 ⊗ nullable_array aborted_transaction ⊗ nullable_blob) code (end, (end, (start, (None, Some records)))),
  pair_len int64 (int64 ⊗ int64 ⊗ nullable_array aborted_transaction ⊗ nullable_blob) end (end, (start, (None, Some records))),
  pair_len int64 (int64 ⊗ nullable_array aborted_transaction ⊗ nullable_blob) end (start, (None, Some records)),
  pair_len int64 (nullable_array aborted_transaction ⊗ nullable_blob) start (None, Some records),
  pair_len (nullable_array aborted_transaction) nullable_blob None (Some records),
  int32_len index,
  int16_len code,
  int64_len end,
  int64_len start,
  no_array_len,
  some_blob_len records,
)

one_count_len : length ((count w32).written 1) ≡ 4
unfolding counted
one_count_len = int32_len (pos 1)

pub replied_len : (f : Fetch) (code end start : ℤ) (records : List ℕ) → length (replied f code end start records) ≡ 52 + length f.topic + length records
replied_len f code end start records =
    let t = int32.written (pos 0) in
    let c = (count w32).written 1 in
    let n = string.written f.topic in
    let p = partition_text f.index code end start records in
    omega (arith, ap length (replied_is f code end start records), length-append t (c ++ (n ++ (c ++ p))), length-append c (n ++ (c ++ p)), length-append n (c ++ p), length-append c p, int32_len (pos 0), one_count_len, string_len f.topic, partition_text_len f.index code end start records)
