-- What the receiver reads in each request of a producer.
use Rattle.std.proofs.Common.{◌≡◌, ℕ, ◌+◌, ◌≤◌, List, [], ◌∷◌, length, Some, None, codes, refl, ap, arith, lit<}
use Rattle.std.specs.Prelude.{ℤ, pos, negsuc, FitsSigned, IsUtf8}
use Rattle.std.specs.Int.{w32}
use Rattle.std.proofs.lemmas.List.{length-append}
use Rattle.std.proofs.lemmas.List.Elements.{All-cons, All-nil}
use Rattle.kb_wire.specs.Codec.{int, int16, int32, counted, nullable_counted, sized, nullable, octets, utf8, items, string, nullable_string, nullable_blob, array, ◌⊗◌}
use Rattle.kb_wire.specs.Fits.{string_fits, array_fits, null_string_fits, blob_fits, nullable_blob_fits}
use Rattle.kb_wire.specs.declared.api_key.TheConstants.{PRODUCE, SASL_HANDSHAKE, CREATE_TOPICS, INIT_PRODUCER_ID, SASL_AUTHENTICATE}
use Rattle.kb_api_group.specs.Layouts.{sasl_handshake_request, sasl_authenticate_request}
use Rattle.kb_api_group.specs.Lawful.{sasl_handshake_request_lawful, sasl_authenticate_request_lawful}
use Rattle.kb_api_data.specs.Layouts.{create_topics_request, create_topic, create_assignment, create_config, init_producer_id_request, produce_request, produce_topic, produce_partition}
use Rattle.kb_api_data.specs.Lawful.{create_topics_request_lawful, init_producer_id_request_lawful, produce_request_lawful}
use Rattle.kb_api_data.specs.declared.create_topics.CreateTopic.{CreateTopic}
use Rattle.kb_api_data.specs.declared.produce.ProduceRequest.{ProduceRequest}
use Rattle.kb_client.specs.Sent.{Target, HasShortTexts}
use Rattle.kb_client.specs.Requests.{plain_message, produce_topics}
use Rattle.kb_client_spec.specs.Receiver.{Handshake, Authenticate, Create, Identify, Produce, asked_or_malformed, asked_by}
use Rattle.kb_client_spec.proofs.Texts.{whole_written, pair_len, int16_len, int32_len, string_len, blob_len, some_blob_len, no_string_len, one_len, none_len}

-- ---- SaslHandshake

unfoldable pub handshake_body : List ℕ
handshake_body = sasl_handshake_request.written (record { mechanism = codes "PLAIN" })

pub handshake_short : length handshake_body ≤ 2000000
unfolding handshake_body sasl_handshake_request
handshake_short = omega (arith, string_len (codes "PLAIN"))

plain_text : IsUtf8 (codes "PLAIN")
unfolding lib.Utf8.encode
plain_text = (80 ∷ 76 ∷ 65 ∷ 73 ∷ 78 ∷ [], (refl, refl))

pub handshake_asked : asked_by SASL_HANDSHAKE (pos 1) handshake_body ≡ Handshake (codes "PLAIN")
unfolding handshake_body sasl_handshake_request sized counted utf8
handshake_asked = ap (λ r. asked_or_malformed r (λ v. Handshake v.mechanism)) (whole_written sasl_handshake_request sasl_handshake_request_lawful (record { mechanism = codes "PLAIN" }) (tt, plain_text) (string_fits (codes "PLAIN") (lit< tt)))

-- ---- SaslAuthenticate

unfoldable pub authenticate_body : Target → List ℕ
authenticate_body t = sasl_authenticate_request.written (record { auth_bytes = plain_message t })

message_short : (t : Target) → HasShortTexts t → length (plain_message t) ≤ 512
message_short t short = omega (arith, length-append t.user (0 ∷ t.password), short.user, short.password)

pub authenticate_short : (t : Target) → HasShortTexts t → length (authenticate_body t) ≤ 2000000
unfolding authenticate_body sasl_authenticate_request
authenticate_short t short = omega (arith, blob_len (plain_message t), message_short t short)

pub authenticate_asked : (t : Target) → HasShortTexts t → asked_by SASL_AUTHENTICATE (pos 0) (authenticate_body t) ≡ Authenticate (plain_message t)
unfolding authenticate_body sasl_authenticate_request sized counted octets
authenticate_asked t short = ap (λ r. asked_or_malformed r (λ v. Authenticate v.auth_bytes)) (whole_written sasl_authenticate_request sasl_authenticate_request_lawful (record { auth_bytes = plain_message t }) (tt, tt) (blob_fits (plain_message t) (omega (arith, message_short t short))))

-- ---- CreateTopics

unfoldable pub topic_of : List ℕ → ℤ → CreateTopic
topic_of name partitions = record { name = name; num_partitions = partitions; replication_factor = pos 1; assignments = []; configs = [] }

unfoldable pub create_body : List ℕ → ℤ → List ℕ
create_body name partitions = create_topics_request.written (record { topics = topic_of name partitions ∷ []; timeout_ms = pos 5000 })

topic_len : (name : List ℕ) (partitions : ℤ) → length (create_topic.written (topic_of name partitions)) ≡ 16 + length name
unfolding topic_of create_topic
topic_len name partitions = omega (
  arith,
  pair_len string (int32 ⊗ int16 ⊗ array create_assignment ⊗ array create_config) name (partitions, (pos 1, ([], []))),
  pair_len int32 (int16 ⊗ array create_assignment ⊗ array create_config) partitions (pos 1, ([], [])),
  pair_len int16 (array create_assignment ⊗ array create_config) (pos 1) ([], []),
  pair_len (array create_assignment) (array create_config) [] [],
  string_len name,
  int32_len partitions,
  int16_len (pos 1),
  none_len create_assignment,
  none_len create_config,
)

pub create_short : (name : List ℕ) (partitions : ℤ) → length name ≤ 255 → length (create_body name partitions) ≤ 2000000
unfolding create_body create_topics_request
create_short name partitions short = omega (arith, pair_len (array create_topic) int32 (topic_of name partitions ∷ []) (pos 5000), one_len create_topic (topic_of name partitions), int32_len (pos 5000), topic_len name partitions, short)

topic_ranged : (name : List ℕ) (partitions : ℤ) → IsUtf8 name → FitsSigned w32 partitions → create_topic.InRange (topic_of name partitions)
unfolding topic_of create_topic int sized counted utf8 items
topic_ranged name partitions text fits = ((tt, text), (fits, (record { sfits = lit< tt }, ((tt, All-nil create_assignment.InRange), (tt, All-nil create_config.InRange)))))

topic_fits : (name : List ℕ) (partitions : ℤ) → length name ≤ 255 → create_topic.Fits (topic_of name partitions)
unfolding topic_of create_topic int
topic_fits name partitions short = (string_fits name (omega (arith, short)), (tt, (tt, (array_fits create_assignment [] (lit< tt) (All-nil create_assignment.Fits), array_fits create_config [] (lit< tt) (All-nil create_config.Fits)))))

create_ranged : (name : List ℕ) (partitions : ℤ) → IsUtf8 name → FitsSigned w32 partitions → create_topics_request.InRange (record { topics = topic_of name partitions ∷ []; timeout_ms = pos 5000 })
unfolding create_topics_request int sized counted items
create_ranged name partitions text fits = ((tt, All-cons create_topic.InRange (topic_of name partitions) [] (topic_ranged name partitions text fits) (All-nil create_topic.InRange)), record { sfits = lit< tt })

create_fits : (name : List ℕ) (partitions : ℤ) → length name ≤ 255 → create_topics_request.Fits (record { topics = topic_of name partitions ∷ []; timeout_ms = pos 5000 })
unfolding create_topics_request int
create_fits name partitions short = (array_fits create_topic (topic_of name partitions ∷ []) (lit< tt) (All-cons create_topic.Fits (topic_of name partitions) [] (topic_fits name partitions short) (All-nil create_topic.Fits)), tt)

pub create_asked : (name : List ℕ) (partitions : ℤ) → length name ≤ 255 → IsUtf8 name → FitsSigned w32 partitions → asked_by CREATE_TOPICS (pos 0) (create_body name partitions) ≡ Create (topic_of name partitions ∷ [])
unfolding create_body
create_asked name partitions short text fits = ap (λ r. asked_or_malformed r (λ v. Create v.topics)) (whole_written create_topics_request create_topics_request_lawful (record { topics = topic_of name partitions ∷ []; timeout_ms = pos 5000 }) (create_ranged name partitions text fits) (create_fits name partitions short))

-- ---- InitProducerId

unfoldable pub identify_body : List ℕ
identify_body = init_producer_id_request.written (record { transactional_id = None; transaction_timeout_ms = pos 60000 })

pub identify_short : length identify_body ≤ 2000000
unfolding identify_body init_producer_id_request
identify_short = omega (arith, pair_len nullable_string int32 None (pos 60000), no_string_len, int32_len (pos 60000))

pub identify_asked : asked_by INIT_PRODUCER_ID (pos 0) identify_body ≡ Identify
unfolding identify_body init_producer_id_request int nullable nullable_counted
identify_asked = ap (λ r. asked_or_malformed r (λ v. Identify)) (whole_written init_producer_id_request init_producer_id_request_lawful (record { transactional_id = None; transaction_timeout_ms = pos 60000 }) (tt, record { sfits = lit< tt }) (null_string_fits, tt))

-- ---- Produce

unfoldable pub produce_ask : Target → List ℕ → ProduceRequest
produce_ask t batch = record { transactional_id = None; acks = negsuc 0; timeout_ms = pos 30000; topics = produce_topics t batch }

unfoldable pub produce_body : Target → List ℕ → List ℕ
produce_body t batch = produce_request.written (produce_ask t batch)

partition_len : (index : ℤ) (batch : List ℕ) → length (produce_partition.written (record { index = index; records = Some batch })) ≡ 8 + length batch
unfolding produce_partition
partition_len index batch = omega (arith, pair_len int32 nullable_blob index (Some batch), int32_len index, some_blob_len batch)

produce_topic_len : (t : Target) (batch : List ℕ) → length (produce_topic.written (record { name = t.topic; partitions = record { index = t.partition; records = Some batch } ∷ [] })) ≡ 14 + length t.topic + length batch
unfolding produce_topic
produce_topic_len t batch = omega (arith, pair_len string (array produce_partition) t.topic (record { index = t.partition; records = Some batch } ∷ []), string_len t.topic, one_len produce_partition (record { index = t.partition; records = Some batch }), partition_len t.partition batch)

pub produce_short : (t : Target) (batch : List ℕ) → length t.topic ≤ 255 → length batch ≤ 1048588 → length (produce_body t batch) ≤ 2000000
unfolding produce_body produce_ask produce_request
produce_short t batch short small = omega (
  arith,
  pair_len nullable_string (int16 ⊗ int32 ⊗ array produce_topic) None (negsuc 0, (pos 30000, produce_topics t batch)),
  pair_len int16 (int32 ⊗ array produce_topic) (negsuc 0) (pos 30000, produce_topics t batch),
  pair_len int32 (array produce_topic) (pos 30000) (produce_topics t batch),
  no_string_len,
  int16_len (negsuc 0),
  int32_len (pos 30000),
  one_len produce_topic (record { name = t.topic; partitions = record { index = t.partition; records = Some batch } ∷ [] }),
  produce_topic_len t batch,
  short,
  small,
)

partition_ranged : (index : ℤ) (batch : List ℕ) → FitsSigned w32 index → produce_partition.InRange (record { index = index; records = Some batch })
unfolding produce_partition int nullable nullable_counted octets
partition_ranged index batch fits = (fits, (tt, tt))

partition_fits : (index : ℤ) (batch : List ℕ) → length batch ≤ 1048588 → produce_partition.Fits (record { index = index; records = Some batch })
unfolding produce_partition int
partition_fits index batch small = (tt, nullable_blob_fits batch (omega (arith, small)))

produce_topic_ranged : (t : Target) (batch : List ℕ) → IsUtf8 t.topic → FitsSigned w32 t.partition → produce_topic.InRange (record { name = t.topic; partitions = record { index = t.partition; records = Some batch } ∷ [] })
unfolding produce_topic sized counted utf8 items
produce_topic_ranged t batch text fits = ((tt, text), (tt, All-cons produce_partition.InRange (record { index = t.partition; records = Some batch }) [] (partition_ranged t.partition batch fits) (All-nil produce_partition.InRange)))

produce_topic_fits : (t : Target) (batch : List ℕ) → length t.topic ≤ 255 → length batch ≤ 1048588 → produce_topic.Fits (record { name = t.topic; partitions = record { index = t.partition; records = Some batch } ∷ [] })
unfolding produce_topic
produce_topic_fits t batch short small = (string_fits t.topic (omega (arith, short)), array_fits produce_partition (record { index = t.partition; records = Some batch } ∷ []) (lit< tt) (All-cons produce_partition.Fits (record { index = t.partition; records = Some batch }) [] (partition_fits t.partition batch small) (All-nil produce_partition.Fits)))

produce_ranged : (t : Target) (batch : List ℕ) → IsUtf8 t.topic → FitsSigned w32 t.partition → produce_request.InRange (produce_ask t batch)
unfolding produce_ask produce_request int sized counted items nullable nullable_counted
produce_ranged t batch text fits = (tt, (record { sfits = lit< tt }, (record { sfits = lit< tt }, (tt, All-cons produce_topic.InRange (record { name = t.topic; partitions = record { index = t.partition; records = Some batch } ∷ [] }) [] (produce_topic_ranged t batch text fits) (All-nil produce_topic.InRange)))))

produce_fits : (t : Target) (batch : List ℕ) → length t.topic ≤ 255 → length batch ≤ 1048588 → produce_request.Fits (produce_ask t batch)
unfolding produce_ask produce_request int
produce_fits t batch short small = (null_string_fits, (tt, (tt, array_fits produce_topic (produce_topics t batch) (lit< tt) (All-cons produce_topic.Fits (record { name = t.topic; partitions = record { index = t.partition; records = Some batch } ∷ [] }) [] (produce_topic_fits t batch short small) (All-nil produce_topic.Fits)))))

pub produce_asked : (t : Target) (batch : List ℕ) → length t.topic ≤ 255 → length batch ≤ 1048588 → IsUtf8 t.topic → FitsSigned w32 t.partition → asked_by PRODUCE (pos 3) (produce_body t batch) ≡ Produce (produce_topics t batch)
unfolding produce_body produce_ask
produce_asked t batch short small text fits = ap (λ r. asked_or_malformed r (λ v. Produce v.topics)) (whole_written produce_request produce_request_lawful (produce_ask t batch) (produce_ranged t batch text fits) (produce_fits t batch short small))
