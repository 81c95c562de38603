-- The requests of a producer, each as its bytes.
use Rattle.std.specs.Prelude.{ℕ, ℤ, pos, negsuc, List, [], ◌∷◌, ◌++◌, Some, None, codes}
use Rattle.kb_wire.specs.Codec.{blob}
use Rattle.kb_wire.specs.declared.api_key.TheConstants.{PRODUCE, SASL_HANDSHAKE, CREATE_TOPICS, INIT_PRODUCER_ID, SASL_AUTHENTICATE}
use Rattle.kb_api_group.specs.Layouts.{request_header, sasl_handshake_request, sasl_authenticate_request}
use Rattle.kb_api_data.specs.Layouts.{create_topics_request, init_producer_id_request, produce_request}
use Rattle.kb_api_data.specs.declared.produce.ProduceTopic.{ProduceTopic}
use Rattle.kb_batch.specs.Building.{IsBuilt, building_at, pushed}
use Rattle.kb_client.specs.declared.stage.ProducerId.{ProducerId}
use Rattle.kb_client.specs.Sent.{Line, Target}

-- a request: its size, its header without a client's name, and its body
abbrev pub request_text : ℤ → ℤ → ℤ → List ℕ → List ℕ
request_text key version id body =
    blob.written (request_header.written (record { api_key = key; api_version = version; correlation_id = id; client_id = None }) ++ body)

-- SaslHandshake: the mechanism PLAIN
abbrev pub handshake_text : ℤ → List ℕ
handshake_text id = request_text SASL_HANDSHAKE (pos 1) id (sasl_handshake_request.written (record { mechanism = codes "PLAIN" }))

-- the message of PLAIN (RFC 4616): no authorization identity, the user and the password
abbrev pub plain_message : Target → List ℕ
plain_message t = 0 ∷ t.user ++ 0 ∷ t.password

-- SaslAuthenticate
abbrev pub authenticate_text : ℤ → Target → List ℕ
authenticate_text id t =
    request_text SASL_AUTHENTICATE (pos 0) id (sasl_authenticate_request.written (record { auth_bytes = plain_message t }))

-- CreateTopics: the topic with so many partitions, one replica and no settings
abbrev pub create_text : ℤ → Target → ℤ → List ℕ
create_text id t partitions = request_text CREATE_TOPICS (pos 0) id (create_topics_request.written (record {
  topics = record { name = t.topic; num_partitions = partitions; replication_factor = pos 1; assignments = []; configs = [] } ∷ [];
  timeout_ms = pos 5000;
}))

-- InitProducerId: an id without a transaction
abbrev pub identify_text : ℤ → List ℕ
identify_text id = request_text INIT_PRODUCER_ID (pos 0) id
    (init_producer_id_request.written (record { transactional_id = None; transaction_timeout_ms = pos 60000 }))

-- the topic of a Produce request, with the partition and its batch
abbrev pub produce_topics : Target → List ℕ → List ProduceTopic
produce_topics t batch = record { name = t.topic; partitions = record { index = t.partition; records = Some batch } ∷ [] } ∷ []

-- Produce: a batch for the partition, to be answered once it is stored
abbrev pub produce_text : ℤ → Target → List ℕ → List ℕ
produce_text id t batch = request_text PRODUCE (pos 3) id
    (produce_request.written (record { transactional_id = None; acks = negsuc 0; timeout_ms = pos 30000; topics = produce_topics t batch }))

-- the batch of a line alone, as this producer's of this sequence number
abbrev pub IsBatchOf : ProducerId → ℤ → Line → List ℕ → Type 0
IsBatchOf producer sequence line batch =
    IsBuilt (building_at producer.id producer.epoch sequence (pushed line.timestamp None (Some line.value) ∷ [])) batch
