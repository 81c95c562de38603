-- The broker, and topics with their partitions (Kafka protocol guide, "The Messages: Metadata").
use Rattle.std.specs.Prelude.{◌≡◌, ℕ, ℤ, pos, Bool, false, List, [], ◌∷◌, ◌++◌, length, map, Option, Some, None, Result, Ok, if◌then◌else◌}
use Rattle.std.specs.Int.{w32}
use Rattle.std.specs.List.{flat_map, range_with_len}
use Rattle.std.specs.Option.{option_and_then}
use Rattle.std.specs.Ordering.{int_eq}
use Rattle.kb_wire.specs.Codec.{Codec, array, boolean, count, int16, int32, string, nullable_string, via, whole, ◌>>=◌, ◌⊗◌}
use Rattle.kb_wire.specs.declared.fault.WireFault.{WireFault}
use Rattle.kb_api_data.specs.Layouts.{metadata_request, metadata_request_v0, metadata_request_v4, metadata_topic, metadata_topic_v0}
use Rattle.kb_api_data.specs.Layouts.{metadata_broker, metadata_partition, metadata_reply, metadata_reply_v0, metadata_reply_v2, metadata_reply_v3}
use Rattle.kb_api_data.specs.declared.metadata.MetadataRequest.{MetadataRequest}
use Rattle.kb_api_data.specs.declared.metadata.MetadataBroker.{MetadataBroker}
use Rattle.kb_api_data.specs.declared.metadata.MetadataPartition.{MetadataPartition}
use Rattle.kb_api_data.specs.declared.metadata.MetadataTopic.{MetadataTopic}
use Rattle.kb_api_data.specs.declared.metadata.MetadataReply.{MetadataReply}
use Rattle.kb_api_data.specs.declared.metadata_versions.MetadataBrokerV0.{MetadataBrokerV0}
use Rattle.kb_api_data.specs.declared.metadata_versions.MetadataTopicV0.{MetadataTopicV0}
use Rattle.kb_api_data.specs.declared.metadata_versions.MetadataReplyV0.{MetadataReplyV0}
use Rattle.kb_api_data.specs.declared.metadata_versions.MetadataReplyV2.{MetadataReplyV2}
use Rattle.kb_api_data.specs.declared.metadata_versions.MetadataReplyV3.{MetadataReplyV3}
use Rattle.kb_wire.specs.ErrorCode.{code_of as code}
use Rattle.kb_wire.specs.declared.error_code.ErrorCode.TheVariants as codes
use Rattle.kb_topics.specs.ByName.{by_name}
use Rattle.kb_topics.specs.Known.{TopicState, named, topic_at}
use Rattle.kb_topics.specs.Name.{is_legal}
use Rattle.kb_tenant_state.specs.World.{World}
use Rattle.kb_tenant.specs.Epochs.{no_epoch}
use Rattle.kb_tenant.specs.Replies.{written_until}
use Rattle.kb_tenant.specs.declared.node.Node.{Node}

-- the one broker
abbrev pub broker : Node → MetadataBroker
broker node = record { node_id = pos 0; host = node.host; port = pos node.port; rack = None }

-- The one broker leads each partition, and is all of its replicas.
abbrev pub partition_described : ℕ → MetadataPartition
partition_described p = record {
  error_code = code codes.None;
  partition = pos p;
  leader = pos 0;
  replicas = pos 0 ∷ [];
  isr = pos 0 ∷ [];
}

-- a topic of that many partitions
abbrev pub topic_described : ℤ → List ℕ → ℕ → MetadataTopic
topic_described error name partitions = record {
  error_code = error;
  name = name;
  is_internal = false;
  partitions = map partition_described (range_with_len 0 partitions);
}

abbrev pub topic_known : TopicState → MetadataTopic
topic_known t = topic_described (code codes.None) t.name (length t.partitions)

abbrev pub topic_found : List ℕ → Option TopicState → MetadataTopic
topic_found name None = topic_described (code codes.UnknownTopicOrPartition) name 0
topic_found name (Some t) = topic_described (code codes.None) name (length t.partitions)

-- a topic that is asked by name
abbrev pub topic_asked : List (ℕ × TopicState) → List ℕ → MetadataTopic
topic_asked ts name =
    if is_legal name then topic_found name (option_and_then (λ i. topic_at i ts) (named name ts))
    else topic_described (code codes.InvalidTopic) name 0

-- the topics that are asked in their order, or all topics in byte order of their names
abbrev pub topics_asked : List (ℕ × TopicState) → Option (List (List ℕ)) → List MetadataTopic
topics_asked ts None = map (λ e. topic_known e.1) (by_name ts)
topics_asked ts (Some names) = map (topic_asked ts) names

abbrev pub metadata_of : World → Node → MetadataRequest → MetadataReply
metadata_of w node r = record {
  brokers = broker node ∷ [];
  controller_id = pos 0;
  topics = topics_asked w.known.topics r.topics;
}

-- ---- versions 0, 2 to 5 and 7; any other is version 1

-- In version 0 no topics mean all topics.
abbrev pub all_if_none : List (List ℕ) → MetadataRequest
all_if_none [] = record { topics = None }
all_if_none (name ∷ names) = record { topics = Some (name ∷ names) }

-- No topic is ever made by asking for it, whatever a request from version 4 on allows.
abbrev pub asked_v4 : List ℕ → Result MetadataRequest WireFault
asked_v4 body = whole metadata_request_v4 body >>= (λ r. Ok (record { topics = r.topics }))

-- a request, as the one of version 1 that asks the same
abbrev pub asked_metadata : ℤ → List ℕ → Result MetadataRequest WireFault
asked_metadata version body =
    if int_eq version (pos 0) then whole metadata_request_v0 body >>= (λ r. Ok (all_if_none r.topics))
    else if int_eq version (pos 4) then asked_v4 body
    else if int_eq version (pos 5) then asked_v4 body
    else if int_eq version (pos 7) then asked_v4 body
    else whole metadata_request body

-- Version 0 tells neither racks, nor the controller, nor which topics are internal.
abbrev pub broker_v0 : MetadataBroker → MetadataBrokerV0
broker_v0 b = record { node_id = b.node_id; host = b.host; port = b.port }

abbrev pub topic_v0 : MetadataTopic → MetadataTopicV0
topic_v0 t = record { error_code = t.error_code; name = t.name; partitions = t.partitions }

abbrev pub reply_v0 : MetadataReply → MetadataReplyV0
reply_v0 r = record { brokers = map broker_v0 r.brokers; topics = map topic_v0 r.topics }

-- Versions from 2 on tell the cluster's id, which is the host of its broker; from 3 on how long the client is held back, which is never.
abbrev pub cluster_id : List MetadataBroker → Option (List ℕ)
cluster_id [] = None
cluster_id (b ∷ bs) = Some b.host

abbrev pub reply_v2 : MetadataReply → MetadataReplyV2
reply_v2 r = record { brokers = r.brokers; cluster_id = cluster_id r.brokers; controller_id = r.controller_id; topics = r.topics }

abbrev pub reply_v3 : MetadataReply → MetadataReplyV3
reply_v3 r = record {
  throttle_time_ms = pos 0;
  brokers = r.brokers;
  cluster_id = cluster_id r.brokers;
  controller_id = r.controller_id;
  topics = r.topics;
}

-- Version 5 tells beside each partition which of its replicas are offline: none is.
abbrev pub metadata_partition_v5 : Codec (MetadataPartition × List ℤ)
metadata_partition_v5 = metadata_partition ⊗ array int32

abbrev pub metadata_topic_v5 : Codec (ℤ × (List ℕ × (Bool × List (MetadataPartition × List ℤ))))
metadata_topic_v5 = int16 ⊗ string ⊗ boolean ⊗ array metadata_partition_v5

abbrev pub partition_v5 : MetadataPartition → MetadataPartition × List ℤ
partition_v5 p = (p, [])

abbrev pub topic_v5 : MetadataTopic → ℤ × (List ℕ × (Bool × List (MetadataPartition × List ℤ)))
topic_v5 t = (t.error_code, (t.name, (t.is_internal, map partition_v5 t.partitions)))

abbrev pub written_v5 : MetadataReply → List ℕ
written_v5 r = (int32 ⊗ array metadata_broker ⊗ nullable_string ⊗ int32 ⊗ array metadata_topic_v5).written
    (pos 0, (r.brokers, (cluster_id r.brokers, (r.controller_id, map topic_v5 r.topics))))

-- Version 7 tells behind each partition's leader the leader's epoch, and offline replicas as version 5.
abbrev pub metadata_partition_v7 : Codec (MetadataPartition × List ℤ)
metadata_partition_v7 = via (λ p. (
  record { error_code = p.0; partition = p.1.0; leader = p.1.1.0; replicas = p.1.1.1.1.0; isr = p.1.1.1.1.1.0 },
  p.1.1.1.1.1.1,
)) (λ v. (v.0.error_code, (v.0.partition, (v.0.leader, (no_epoch, (v.0.replicas, (v.0.isr, v.1)))))))
    (int16 ⊗ int32 ⊗ int32 ⊗ int32 ⊗ array int32 ⊗ array int32 ⊗ array int32)

abbrev pub metadata_topic_v7 : Codec (ℤ × (List ℕ × (Bool × List (MetadataPartition × List ℤ))))
metadata_topic_v7 = int16 ⊗ string ⊗ boolean ⊗ array metadata_partition_v7

abbrev pub written_v7 : MetadataReply → List ℕ
written_v7 r = (int32 ⊗ array metadata_broker ⊗ nullable_string ⊗ int32 ⊗ array metadata_topic_v7).written
    (pos 0, (r.brokers, (cluster_id r.brokers, (r.controller_id, map topic_v5 r.topics))))

-- the reply in bytes
abbrev pub metadata_in : ℤ → MetadataReply → List ℕ
metadata_in version r =
    if int_eq version (pos 0) then metadata_reply_v0.written (reply_v0 r)
    else if int_eq version (pos 2) then metadata_reply_v2.written (reply_v2 r)
    else if int_eq version (pos 3) then metadata_reply_v3.written (reply_v3 r)
    else if int_eq version (pos 4) then metadata_reply_v3.written (reply_v3 r)
    else if int_eq version (pos 5) then written_v5 r
    else if int_eq version (pos 7) then written_v7 r
    else metadata_reply.written r

-- what it says of whether a topic is internal, of a topic, and of topics behind their count
abbrev pub internal_in : ℤ → List ℕ
internal_in version = if int_eq version (pos 0) then [] else boolean.written false

-- whether it tells of offline replicas alone, and whether of leaders' epochs and of them; a partition by either, or without both
abbrev pub has_offline : ℤ → Bool
has_offline version = int_eq version (pos 5)

abbrev pub has_epochs : ℤ → Bool
has_epochs version = int_eq version (pos 7)

abbrev pub partition_as : Bool → Bool → MetadataPartition → List ℕ
partition_as epochs offline p =
    if epochs then metadata_partition_v7.written (partition_v5 p)
    else if offline then metadata_partition_v5.written (partition_v5 p) else metadata_partition.written p

abbrev pub topic_as : Bool → Bool → Bool → MetadataTopic → List ℕ
topic_as old epochs offline t =
    if old then metadata_topic_v0.written (topic_v0 t)
    else if epochs then metadata_topic_v7.written (topic_v5 t)
    else if offline then metadata_topic_v5.written (topic_v5 t) else metadata_topic.written t

abbrev pub topic_in : ℤ → MetadataTopic → List ℕ
topic_in version t = topic_as (int_eq version (pos 0)) (has_epochs version) (has_offline version) t

abbrev pub topics_in : ℤ → List MetadataTopic → List ℕ
topics_in version ts = (count w32).written (length ts) ++ flat_map (topic_in version) ts

-- topics behind their count and some bytes, until these are more than so many
abbrev pub topics_until : ℕ → ℤ → List ℕ → List MetadataTopic → List ℕ
topics_until most version out ts = written_until most (topic_in version) (out ++ (count w32).written (length ts)) ts

-- The new bytes are the reply behind the old ones, until they are more than so many: first what stands before the topics, then these.
abbrev pub IsMetadataUntil : ℕ → ℤ → MetadataReply → (old new : List ℕ) → Type 0
IsMetadataUntil most version r old new =
    (front : List ℕ) × (front ++ topics_in version r.topics ≡ old ++ metadata_in version r)
    × (new ≡ topics_until most version front r.topics)
