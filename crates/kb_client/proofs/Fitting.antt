-- The requests fit their fields.
use Rattle.std.proofs.Common.{◌≡◌, ℕ, ◌≤◌, ℤ, List, [], ◌∷◌, ◌++◌, length, Some, None, codes, lit<, subst, sym, ap, ◌∙◌, arith}
use Rattle.std.proofs.lemmas.List.Elements.{All-cons, All-nil}
use Rattle.kb_wire.specs.Codec.{string, array, int}
use Rattle.kb_wire.specs.Fits.{string_fits, array_fits, null_string_fits, blob_fits, nullable_blob_fits}
use Rattle.kb_api_group.specs.Layouts.{request_header, sasl_handshake_request, sasl_authenticate_request}
use Rattle.kb_api_data.specs.Layouts.{create_topics_request, create_topic, create_assignment, create_config, init_producer_id_request, produce_request, produce_topic, produce_partition, fetch_request_v5, fetch_topic_v5, fetch_partition_v5}
use Rattle.kb_api_data.specs.declared.fetch_v5.FetchTopicV5.{FetchTopicV5}
use Rattle.std.specs.Prelude.{pos, negsuc}
use Rattle.kb_client.specs.Fetched.{fetch_topics}
use Rattle.kb_api_data.specs.declared.create_topics.CreateTopic.{CreateTopic}
use Rattle.kb_api_data.specs.declared.create_topics.CreateAssignment.{CreateAssignment}
use Rattle.kb_api_data.specs.declared.create_topics.CreateConfig.{CreateConfig}
use Rattle.kb_api_data.specs.declared.produce.ProduceTopic.{ProduceTopic}
use Rattle.kb_client.specs.Sent.{Target}
use Rattle.kb_client.specs.Requests.{produce_topics}

pub header_fits : (key version id : ℤ) → request_header.Fits (record { api_key = key; api_version = version; correlation_id = id; client_id = None })
unfolding request_header int
header_fits key version id = (tt, (tt, (tt, null_string_fits)))

pub handshake_fits : (mechanism : List ℕ) → mechanism ≡ codes "PLAIN" → sasl_handshake_request.Fits (record { mechanism = mechanism })
unfolding sasl_handshake_request
handshake_fits mechanism is = subst string.Fits (sym is) (string_fits (codes "PLAIN") (lit< tt))

pub identify_fits : (time : ℤ) → init_producer_id_request.Fits (record { transactional_id = None; transaction_timeout_ms = time })
unfolding init_producer_id_request int
identify_fits time = (null_string_fits, tt)

pub authenticate_fits : (message : List ℕ) → length message ≤ 512 → sasl_authenticate_request.Fits (record { auth_bytes = message })
unfolding sasl_authenticate_request
authenticate_fits message short = blob_fits message (omega (arith, short))

-- a topic whose name is short, with no assignment and no setting
topic_fits : (name : List ℕ) (partitions factor : ℤ) → length name ≤ 255 → create_topic.Fits (record { name = name; num_partitions = partitions; replication_factor = factor; assignments = []; configs = [] })
unfolding create_topic int
topic_fits name partitions factor short = (string_fits name (omega (arith, short)), (tt, (tt, (array_fits create_assignment [] (lit< tt) (All-nil create_assignment.Fits), array_fits create_config [] (lit< tt) (All-nil create_config.Fits)))))

pub create_fits : (name : List ℕ) (partitions factor time : ℤ) (assignments : List CreateAssignment) (configs : List CreateConfig) (old new : List CreateTopic) → length name ≤ 255 → assignments ≡ [] → configs ≡ [] → old ≡ [] → new ≡ old ++ record { name = name; num_partitions = partitions; replication_factor = factor; assignments = assignments; configs = configs } ∷ [] → create_topics_request.Fits (record { topics = new; timeout_ms = time })
unfolding create_topics_request int
create_fits name partitions factor time assignments configs old new short no_assignments no_configs none is =
    let bare : CreateTopic = record { name = name; num_partitions = partitions; replication_factor = factor; assignments = []; configs = [] } in
    let one : new ≡ bare ∷ [] = is ∙ ap (λ xs. xs ++ record { name = name; num_partitions = partitions; replication_factor = factor; assignments = assignments; configs = configs } ∷ []) none ∙ ap (λ a. record { name = name; num_partitions = partitions; replication_factor = factor; assignments = a; configs = configs } ∷ []) no_assignments ∙ ap (λ a. record { name = name; num_partitions = partitions; replication_factor = factor; assignments = []; configs = a } ∷ []) no_configs in
    (subst (array create_topic).Fits (sym one) (array_fits create_topic _ (lit< tt) (All-cons create_topic.Fits bare [] (topic_fits name partitions factor short) (All-nil create_topic.Fits))), tt)

partition_fits : (index : ℤ) (batch : List ℕ) → length batch ≤ 1048588 → produce_partition.Fits (record { index = index; records = Some batch })
unfolding produce_partition int
partition_fits index batch small = (tt, nullable_blob_fits batch (omega (arith, small)))

produce_topic_fits : (t : Target) (batch : List ℕ) → length t.topic ≤ 255 → length batch ≤ 1048588 → produce_topic.Fits (record { name = t.topic; partitions = record { index = t.partition; records = Some batch } ∷ [] })
unfolding produce_topic
produce_topic_fits t batch short small = (string_fits t.topic (omega (arith, short)), array_fits produce_partition _ (lit< tt) (All-cons produce_partition.Fits _ [] (partition_fits t.partition batch small) (All-nil produce_partition.Fits)))

pub produce_fits : (t : Target) (batch : List ℕ) (topics : List ProduceTopic) (acks time : ℤ) → length t.topic ≤ 255 → length batch ≤ 1048588 → topics ≡ produce_topics t batch → produce_request.Fits (record { transactional_id = None; acks = acks; timeout_ms = time; topics = topics })
unfolding produce_request int
produce_fits t batch topics acks time short small is =
    (null_string_fits, (tt, (tt, subst (array produce_topic).Fits (sym is) (array_fits produce_topic _ (lit< tt) (All-cons produce_topic.Fits _ [] (produce_topic_fits t batch short small) (All-nil produce_topic.Fits))))))

partition_asked : (index offset start most : ℤ) → fetch_partition_v5.Fits (record { partition = index; fetch_offset = offset; log_start_offset = start; partition_max_bytes = most })
unfolding fetch_partition_v5 int
partition_asked index offset start most = (tt, (tt, (tt, tt)))

topic_asked : (t : Target) (offset : ℤ) → length t.topic ≤ 255 → fetch_topic_v5.Fits (record { topic = t.topic; partitions = record { partition = t.partition; fetch_offset = offset; log_start_offset = negsuc 0; partition_max_bytes = pos 1048576 } ∷ [] })
unfolding fetch_topic_v5
topic_asked t offset short = (string_fits t.topic (omega (arith, short)), array_fits fetch_partition_v5 _ (lit< tt) (All-cons fetch_partition_v5.Fits _ [] (partition_asked t.partition offset (negsuc 0) (pos 1048576)) (All-nil fetch_partition_v5.Fits)))

pub fetch_fits : (t : Target) (offset replica wait least most level : ℤ) (topics : List FetchTopicV5) → length t.topic ≤ 255 → topics ≡ fetch_topics t offset → fetch_request_v5.Fits (record { replica_id = replica; max_wait_ms = wait; min_bytes = least; max_bytes = most; isolation_level = level; topics = topics })
unfolding fetch_request_v5 int
fetch_fits t offset replica wait least most level topics short is =
    (tt, (tt, (tt, (tt, (tt, subst (array fetch_topic_v5).Fits (sym is) (array_fits fetch_topic_v5 _ (lit< tt) (All-cons fetch_topic_v5.Fits _ [] (topic_asked t offset short) (All-nil fetch_topic_v5.Fits))))))))
