-- What a producer reads in each reply of the receiver.
use Rattle.std.proofs.Common.{◌≡◌, ℕ, ◌+◌, ◌≤◌, List, [], ◌∷◌, ◌++◌, length, None, Ok, codes, refl, ap, ◌∙◌, append_assoc, arith, lit<}
use Rattle.std.specs.Prelude.{ℤ, pos, negsuc, FitsSigned, IsUtf8}
use Rattle.std.specs.Int.{w16, w32}
use Rattle.std.proofs.lemmas.List.{length-append, append-nil}
use Rattle.kb_wire.specs.Codec.{int, int16, int32, int64, count, counted, nullable_counted, sized, nullable, octets, utf8, items, string, nullable_string, blob, array, whole, ◌⊗◌}
use Rattle.kb_wire.specs.Fits.{string_fits, null_string_fits, blob_fits}
use Rattle.kb_wire.specs.Laws.{IsLawful, int16_lawful, int32_lawful, string_lawful, counted_lawful, pair_lawful}
use Rattle.kb_api_group.specs.Layouts.{sasl_handshake_reply, sasl_authenticate_reply}
use Rattle.kb_api_group.specs.Lawful.{sasl_authenticate_reply_lawful}
use Rattle.kb_api_data.specs.Layouts.{create_topics_reply, create_topic_reply, init_producer_id_reply, produce_reply, produce_topic_reply, produce_partition_reply}
use Rattle.kb_api_data.specs.Lawful.{init_producer_id_reply_lawful, produce_partition_reply_lawful}
use Rattle.kb_api_data.specs.declared.produce.ProducePartitionReply.{ProducePartitionReply}
use Rattle.kb_api_data.specs.declared.init_producer_id.InitProducerIdReply.{InitProducerIdReply}
use Rattle.kb_client.specs.declared.stage.ProducerId.{ProducerId}
use Rattle.kb_client.specs.Replies.{body_for, handshake_code, authenticate_code, one_topic, create_code, identity, one_partition, produce_code}
use Rattle.kb_client_spec.specs.Receiver.{ProducedBatch, handshake_reply, authenticate_reply, create_reply, identify_reply, stored_reply}
use Rattle.kb_client_spec.proofs.Texts.{int_same, whole_spelled, whole_written, wrapped, wrapped_spelled, pair_len, int16_len, int32_len, int64_len, string_len, one_len, no_string_len, blob_len}
use Rattle.kb_client_spec.proofs.Asking.{topic_of}

pub body_read : (id : ℤ) (body : List ℕ) → FitsSigned w32 id → body_for id (int32.written id ++ body) ≡ Ok body
unfolding int
body_read id body fits =
    let read : int32.read (int32.written id ++ body) ≡ Ok (id, body) = int32_lawful.only (int32.written id) id body (int32_lawful.again id fits tt) in
    rw (read, int_same id) refl

-- ---- SaslHandshake

pub handshake_heard : handshake_code (handshake_reply (pos 0)) ≡ Ok (pos 0)
unfolding sasl_handshake_reply int
handshake_heard =
    let fits : FitsSigned w16 (pos 0) = record { sfits = lit< tt } in
    let rest : List ℕ = (array string).written (codes "PLAIN" ∷ []) in
    let read : int16.read (int16.written (pos 0) ++ rest) ≡ Ok (pos 0, rest) = int16_lawful.only (int16.written (pos 0)) (pos 0) rest (int16_lawful.again (pos 0) fits tt) in
    rw read refl

pub handshake_reply_len : length (handshake_reply (pos 0)) ≡ 13
unfolding sasl_handshake_reply
handshake_reply_len = omega (arith, pair_len int16 (array string) (pos 0) (codes "PLAIN" ∷ []), int16_len (pos 0), one_len string (codes "PLAIN"), string_len (codes "PLAIN"))

-- ---- SaslAuthenticate

authenticate_read : (code : ℤ) → FitsSigned w16 code → whole sasl_authenticate_reply (authenticate_reply code) ≡ Ok (record { error_code = code; error_message = None; auth_bytes = [] })
unfolding sasl_authenticate_reply int sized counted octets nullable nullable_counted
authenticate_read code fits = whole_written sasl_authenticate_reply sasl_authenticate_reply_lawful (record { error_code = code; error_message = None; auth_bytes = [] }) (fits, (tt, (tt, tt))) (tt, (null_string_fits, blob_fits [] (lit< tt)))

pub authenticate_heard : (code : ℤ) → FitsSigned w16 code → authenticate_code (authenticate_reply code) ≡ Ok code
authenticate_heard code fits = rw (authenticate_read code fits) refl

pub authenticate_reply_len : (code : ℤ) → length (authenticate_reply code) ≡ 8
unfolding sasl_authenticate_reply
authenticate_reply_len code = omega (arith, pair_len int16 (nullable_string ⊗ blob) code (None, []), pair_len nullable_string blob None [], int16_len code, no_string_len, blob_len [])

-- ---- CreateTopics

one_topic_lawful : IsLawful one_topic
one_topic_lawful = pair_lawful (counted_lawful int32 int32_lawful) (pair_lawful string_lawful int16_lawful)

create_reply_is : (name : List ℕ) (partitions code : ℤ) → create_reply code (topic_of name partitions ∷ []) ≡ one_topic.written (1, (name, code))
unfolding topic_of create_topics_reply create_topic_reply sized items
create_reply_is name partitions code = ap (λ y. (count w32).written 1 ++ y) (append-nil (string.written name ++ int16.written code))

create_read : (name : List ℕ) (partitions code : ℤ) → length name ≤ 255 → IsUtf8 name → FitsSigned w16 code → whole one_topic (create_reply code (topic_of name partitions ∷ [])) ≡ Ok (1, (name, code))
unfolding int sized counted utf8
create_read name partitions code short text fits = ap (λ s. whole one_topic s) (create_reply_is name partitions code) ∙ whole_written one_topic one_topic_lawful (1, (name, code)) (tt, ((tt, text), fits)) ((tt, record { sfits = lit< tt }), (string_fits name (omega (arith, short)), tt))

pub create_heard : (name : List ℕ) (partitions code : ℤ) → length name ≤ 255 → IsUtf8 name → FitsSigned w16 code → create_code (create_reply code (topic_of name partitions ∷ [])) ≡ Ok code
create_heard name partitions code short text fits = rw (create_read name partitions code short text fits) refl

pub create_reply_len : (name : List ℕ) (partitions code : ℤ) → length (create_reply code (topic_of name partitions ∷ [])) ≡ 8 + length name
unfolding topic_of create_topics_reply create_topic_reply
create_reply_len name partitions code = omega (arith, one_len create_topic_reply (record { name = name; error_code = code }), pair_len string int16 name code, string_len name, int16_len code)

-- ---- InitProducerId

unfoldable pub given_id : ℤ → ProducerId
given_id id = record { id = wrapped id; epoch = pos 0 }

identify_value : ℤ → InitProducerIdReply
identify_value id = record { throttle_time_ms = pos 0; error_code = pos 0; producer_id = wrapped id; producer_epoch = pos 0 }

identify_spelled : (id : ℤ) → init_producer_id_reply.Spells (identify_reply id) (identify_value id)
unfolding init_producer_id_reply identify_value int
identify_spelled id =
    let zero16 : int16.Spells (int16.written (pos 0)) (pos 0) = int16_lawful.again (pos 0) (record { sfits = lit< tt }) tt in
    let zero32 : int32.Spells (int32.written (pos 0)) (pos 0) = int32_lawful.again (pos 0) (record { sfits = lit< tt }) tt in (
      int32.written (pos 0),
      int16.written (pos 0) ++ int64.written id ++ int16.written (pos 0),
      refl,
      zero32,
      (
        int16.written (pos 0),
        int64.written id ++ int16.written (pos 0),
        refl,
        zero16,
        (int64.written id, int16.written (pos 0), refl, wrapped_spelled id, zero16),
      ),
    )

pub identify_heard : (id : ℤ) → identity (identify_reply id) ≡ Ok (pos 0, given_id id)
unfolding given_id identify_value
identify_heard id =
    let read : whole init_producer_id_reply (identify_reply id) ≡ Ok (identify_value id) = whole_spelled init_producer_id_reply init_producer_id_reply_lawful (identify_reply id) (identify_value id) (identify_spelled id) in
    rw read refl

pub identify_reply_len : (id : ℤ) → length (identify_reply id) ≡ 16
unfolding init_producer_id_reply
identify_reply_len id = omega (arith, pair_len int32 (int16 ⊗ int64 ⊗ int16) (pos 0) (pos 0, (id, pos 0)), pair_len int16 (int64 ⊗ int16) (pos 0) (id, pos 0), pair_len int64 int16 id (pos 0), int32_len (pos 0), int16_len (pos 0), int64_len id)

-- ---- Produce

one_partition_lawful : IsLawful one_partition
one_partition_lawful = pair_lawful (counted_lawful int32 int32_lawful) (pair_lawful string_lawful (pair_lawful (counted_lawful int32 int32_lawful) (pair_lawful produce_partition_reply_lawful int32_lawful)))

partition_text : ℤ → ℤ → List ℕ
partition_text index offset = produce_partition_reply.written (record { index = index; error_code = pos 0; base_offset = offset; log_append_time_ms = negsuc 0 })

partition_value : ℤ → ℤ → ProducePartitionReply
partition_value index offset = record { index = index; error_code = pos 0; base_offset = wrapped offset; log_append_time_ms = wrapped (negsuc 0) }

partition_spelled : (index offset : ℤ) → FitsSigned w32 index → produce_partition_reply.Spells (partition_text index offset) (partition_value index offset)
unfolding produce_partition_reply partition_text partition_value int
partition_spelled index offset fits =
    let zero16 : int16.Spells (int16.written (pos 0)) (pos 0) = int16_lawful.again (pos 0) (record { sfits = lit< tt }) tt in
    let at : int32.Spells (int32.written index) index = int32_lawful.again index fits tt in (
      int32.written index,
      int16.written (pos 0) ++ int64.written offset ++ int64.written (negsuc 0),
      refl,
      at,
      (
        int16.written (pos 0),
        int64.written offset ++ int64.written (negsuc 0),
        refl,
        zero16,
        (int64.written offset, int64.written (negsuc 0), refl, wrapped_spelled offset, wrapped_spelled (negsuc 0)),
      ),
    )

regrouped : (c n d p t : List ℕ) → (c ++ ((n ++ (d ++ (p ++ []))) ++ [])) ++ t ≡ c ++ (n ++ (d ++ (p ++ t)))
regrouped c n d p t = simp (append-nil, append_assoc)

stored_reply_is : (part : ProducedBatch) (offset : ℤ) → stored_reply part (pos 0) offset ≡ (count w32).written 1 ++ (string.written part.topic ++ ((count w32).written 1 ++ (partition_text part.index offset ++ int32.written (pos 0))))
unfolding produce_reply produce_topic_reply partition_text sized items
stored_reply_is part offset = regrouped ((count w32).written 1) (string.written part.topic) ((count w32).written 1) (partition_text part.index offset) (int32.written (pos 0))

one_spelled : (count w32).Spells ((count w32).written 1) 1
unfolding int counted
one_spelled = int32_lawful.again (pos 1) (record { sfits = lit< tt }) tt

topic_spelled : (name : List ℕ) → length name ≤ 255 → IsUtf8 name → string.Spells (string.written name) name
unfolding sized counted utf8
topic_spelled name short text = string_lawful.again name (tt, text) (string_fits name (omega (arith, short)))

zero_spelled : int32.Spells (int32.written (pos 0)) (pos 0)
unfolding int
zero_spelled = int32_lawful.again (pos 0) (record { sfits = lit< tt }) tt

stored_spelled : (part : ProducedBatch) (offset : ℤ) → length part.topic ≤ 255 → IsUtf8 part.topic → FitsSigned w32 part.index → one_partition.Spells (stored_reply part (pos 0) offset) (1, (part.topic, (1, (partition_value part.index offset, pos 0))))
stored_spelled part offset short text fits =
    let c = (count w32).written 1 in
    let n = string.written part.topic in
    let p = partition_text part.index offset in
    let t = int32.written (pos 0) in (
      c,
      n ++ (c ++ (p ++ t)),
      stored_reply_is part offset,
      one_spelled,
      (
        n,
        c ++ (p ++ t),
        refl,
        topic_spelled part.topic short text,
        (c, p ++ t, refl, one_spelled, (p, t, refl, partition_spelled part.index offset fits, zero_spelled)),
      ),
    )

pub stored_heard : (part : ProducedBatch) (offset : ℤ) → length part.topic ≤ 255 → IsUtf8 part.topic → FitsSigned w32 part.index → produce_code (stored_reply part (pos 0) offset) ≡ Ok (pos 0)
unfolding partition_value
stored_heard part offset short text fits =
    let read : whole one_partition (stored_reply part (pos 0) offset) ≡ Ok (1, (part.topic, (1, (partition_value part.index offset, pos 0)))) = whole_spelled one_partition one_partition_lawful (stored_reply part (pos 0) offset) (1, (part.topic, (1, (partition_value part.index offset, pos 0)))) (stored_spelled part offset short text fits) in
    rw read refl

partition_text_len : (index offset : ℤ) → length (partition_text index offset) ≡ 22
unfolding partition_text produce_partition_reply
partition_text_len index offset = omega (arith, pair_len int32 (int16 ⊗ int64 ⊗ int64) index (pos 0, (offset, negsuc 0)), pair_len int16 (int64 ⊗ int64) (pos 0) (offset, negsuc 0), pair_len int64 int64 offset (negsuc 0), int32_len index, int16_len (pos 0), int64_len offset, int64_len (negsuc 0))

one_count_len : length ((count w32).written 1) ≡ 4
unfolding counted
one_count_len = int32_len (pos 1)

pub stored_reply_len : (part : ProducedBatch) (offset : ℤ) → length (stored_reply part (pos 0) offset) ≡ 36 + length part.topic
stored_reply_len part offset =
    let c = (count w32).written 1 in
    let n = string.written part.topic in
    let p = partition_text part.index offset in
    let t = int32.written (pos 0) in
    omega (arith, ap length (stored_reply_is part offset), length-append c (n ++ (c ++ (p ++ t))), length-append n (c ++ (p ++ t)), length-append c (p ++ t), length-append p t, one_count_len, string_len part.topic, partition_text_len part.index offset, int32_len (pos 0))
