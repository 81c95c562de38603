-- What CreateTopics makes of a world, and its reply (Kafka protocol guide, "The Messages: CreateTopics").
use Rattle.std.specs.Prelude.{ℕ, ℤ, pos, Bool, true, false, List, ◌+◌, length, map, Option, Some, None, Result, Ok, Err, is_some, not}
use Rattle.std.specs.Prelude.{nat_le, ◌||◌, if◌then◌else◌}
use Rattle.std.specs.List.{count_by}
use Rattle.std.specs.Ordering.{int_eq}
use Rattle.std.specs.Str.{bytes_eq}
use Rattle.kb_wire.specs.Codec.{whole, ◌>>=◌}
use Rattle.kb_wire.specs.declared.fault.WireFault.{WireFault}
use Rattle.kb_wire.specs.ErrorCode.{code_of}
use Rattle.kb_wire.specs.declared.error_code.ErrorCode.{ErrorCode}
use Rattle.kb_wire.specs.declared.error_code.ErrorCode.TheVariants as codes
use Rattle.kb_api_data.specs.Layouts.{create_topics_request, create_topics_request_v1, create_topic_reply, create_topic_reply_v1}
use Rattle.kb_api_data.specs.Layouts.{create_topics_reply, create_topics_reply_v1}
use Rattle.kb_api_data.specs.declared.create_topics.CreateTopic.{CreateTopic}
use Rattle.kb_api_data.specs.declared.create_topics.CreateTopicsRequest.{CreateTopicsRequest}
use Rattle.kb_api_data.specs.declared.create_topics.CreateTopicReply.{CreateTopicReply}
use Rattle.kb_api_data.specs.declared.create_topics.CreateTopicsReply.{CreateTopicsReply}
use Rattle.kb_api_data.specs.declared.create_topics_v1.CreateTopicsRequestV1.{CreateTopicsRequestV1}
use Rattle.kb_api_data.specs.declared.create_topics_v1.CreateTopicReplyV1.{CreateTopicReplyV1}
use Rattle.kb_api_data.specs.declared.create_topics_v1.CreateTopicsReplyV1.{CreateTopicsReplyV1}
use Rattle.kb_batch.specs.Batch.{natural}
use Rattle.kb_topics.specs.CatalogFault as catalog
use Rattle.kb_topics.specs.Known.{Known, named, is_partition_count}
use Rattle.kb_topics.specs.Name.{is_legal}
use Rattle.kb_topics.specs.declared.config.TopicConfig.{TopicConfig}
use Rattle.kb_topics.specs.declared.fault.CatalogFault.{CatalogFault}
use Rattle.kb_topics.specs.declared.fault.CatalogFault.TheVariants as faults
use Rattle.kb_tenant_state.specs.Calls.{create}
use Rattle.kb_tenant_state.specs.Stored.{partitions_in}
use Rattle.kb_tenant.specs.Limits.{is_past, left_of}
use Rattle.kb_tenant.specs.Settings.{settings_in}
use Rattle.kb_tenant.specs.Turns.{in_turn}
use Rattle.kb_tenant_state.specs.World.{World}
use Rattle.kb_tenant.specs.declared.create_topics.room.Room.{Room}
use Rattle.kb_tenant.specs.declared.limits.DataLimits.{DataLimits}

-- whether a name stands in more than one entry
abbrev pub stands_twice : List ℕ → List CreateTopic → Bool
stands_twice name ts = nat_le 2 (count_by (λ (t : CreateTopic). bytes_eq name t.name) ts)

-- The first of these that holds: the name stands twice in the request, is not legal, or is there; there are to be fewer than
-- 1 or more than 64 partitions, or other than one replica of each; brokers are assigned.
abbrev pub refusal : Bool → Bool → CreateTopic → Option ErrorCode
refusal twice there t =
    if twice then Some codes.InvalidRequest
    else (if not (is_legal t.name) then Some codes.InvalidTopic
    else (if there then Some codes.TopicAlreadyExists
    else (if not (is_partition_count t.num_partitions) then Some codes.InvalidPartitions
    else (if not (int_eq t.replication_factor (pos 1)) then Some codes.InvalidReplicationFactor
    else (if nat_le 1 (length t.assignments) then Some codes.InvalidReplicaAssignment else None)))))

-- the error code for what a call of the catalog answered
abbrev pub code_in : Result (Unit {0}) CatalogFault → ℤ
code_in (Ok u) = code_of codes.None
code_in (Err f) = catalog.code_of f

-- the room that is left where these topics are
abbrev pub room_in : DataLimits → Known → Room
room_in limits k = record { topics = length k.topics; partitions = left_of limits.partitions (partitions_in k) }

-- whether the tenant may not have one more topic, of so many partitions
abbrev pub is_too_much : DataLimits → Room → ℤ → Bool
is_too_much limits room partitions = is_past limits.topics (room.topics + 1) || is_past room.partitions (natural partitions)

abbrev pub made_unless_full : Bool → World → CreateTopic → TopicConfig → World × ℤ
made_unless_full true w t config = (w, code_of codes.PolicyViolation)
made_unless_full false w t config = let r = create w t.name t.num_partitions config in (r.0, code_in r.1)

-- A topic with these settings is made, if they may be given, the tenant may have it, and there is room for one more.
abbrev pub made_with : DataLimits → World → CreateTopic → Option TopicConfig → World × ℤ
made_with limits w t None = (w, code_of codes.InvalidConfig)
made_with limits w t (Some config) = made_unless_full (is_too_much limits (room_in limits w.known) t.num_partitions) w t config

abbrev pub made_unless : DataLimits → World → CreateTopic → Option ErrorCode → World × ℤ
made_unless limits w t (Some e) = (w, code_of e)
made_unless limits w t None = made_with limits w t (settings_in t.configs)

-- A topic is made, or the first refusal is answered. The flag: its name stands twice in the request.
abbrev pub made : DataLimits → Bool → World → CreateTopic → World × ℤ
made limits twice w t = made_unless limits w t (refusal twice (is_some (named t.name w.known.topics)) t)

-- an entry of a request for these topics
abbrev pub created_topic : DataLimits → List CreateTopic → World → CreateTopic → World × CreateTopicReply
created_topic limits ts w t = let r = made limits (stands_twice t.name ts) w t in (r.0, record { name = t.name; error_code = r.1 })

-- The topics are made in order.
abbrev pub created_all : DataLimits → World → CreateTopicsRequest → World × CreateTopicsReply
created_all limits w q = let r = in_turn (created_topic limits q.topics) w q.topics in (r.0, record { topics = r.1 })

-- ---- a request that is only checked: each entry is answered as if those before it had been made, and the world stays. Neither
-- memory nor the store is asked, nor whether an instance is left for the topic.

-- the room that is left behind one more topic, of so many partitions
abbrev pub room_behind : Room → ℤ → Room
room_behind room partitions = record { topics = room.topics + 1; partitions = left_of room.partitions (natural partitions) }

abbrev pub checked_unless_full : Bool → Room → CreateTopic → Room × ℤ
checked_unless_full true room t = (room, code_of codes.PolicyViolation)
checked_unless_full false room t =
    if nat_le 1000 room.topics then (room, code_in (Err faults.TooMany)) else (room_behind room t.num_partitions, code_of codes.None)

-- the room that would be left, and what one more topic with these settings is answered
abbrev pub checked_with : DataLimits → Room → CreateTopic → Option TopicConfig → Room × ℤ
checked_with limits room t None = (room, code_of codes.InvalidConfig)
checked_with limits room t (Some config) = checked_unless_full (is_too_much limits room t.num_partitions) room t

abbrev pub checked_unless : DataLimits → Room → CreateTopic → Option ErrorCode → Room × ℤ
checked_unless limits room t (Some e) = (room, code_of e)
checked_unless limits room t None = checked_with limits room t (settings_in t.configs)

-- an entry of a request for these topics
abbrev pub checked_topic : DataLimits → List CreateTopic → World → Room → CreateTopic → Room × CreateTopicReply
checked_topic limits ts w room t =
    let r = checked_unless limits room t (refusal (stands_twice t.name ts) (is_some (named t.name w.known.topics)) t) in
    (r.0, record { name = t.name; error_code = r.1 })

abbrev pub checked_all : DataLimits → World → List CreateTopic → CreateTopicsReply
checked_all limits w ts = record { topics = (in_turn (checked_topic limits ts w) (room_in limits w.known) ts).1 }

-- ---- version 1; any other is version 0

-- A request, as the one of version 1 that asks the same. None of version 0 is only checked.
abbrev pub to_make : CreateTopicsRequest → CreateTopicsRequestV1
to_make q = record { topics = q.topics; timeout_ms = q.timeout_ms; validate_only = false }

abbrev pub asked_creations : ℤ → List ℕ → Result CreateTopicsRequestV1 WireFault
asked_creations version body =
    if int_eq version (pos 1) then whole create_topics_request_v1 body
    else whole create_topics_request body >>= (λ q. Ok (to_make q))

-- what it asks to make
abbrev pub made_of : CreateTopicsRequestV1 → CreateTopicsRequest
made_of q = record { topics = q.topics; timeout_ms = q.timeout_ms }

-- Version 1 tells a message beside each code, which is null.
abbrev pub topic_reply_v1 : CreateTopicReply → CreateTopicReplyV1
topic_reply_v1 t = record { name = t.name; error_code = t.error_code; error_message = None }

abbrev pub reply_v1 : CreateTopicsReply → CreateTopicsReplyV1
reply_v1 r = record { topics = map topic_reply_v1 r.topics }

-- the reply in bytes
abbrev pub creations_in : ℤ → CreateTopicsReply → List ℕ
creations_in version r = if int_eq version (pos 1) then create_topics_reply_v1.written (reply_v1 r) else create_topics_reply.written r

-- what it says of a topic
abbrev pub creation_in : ℤ → CreateTopicReply → List ℕ
creation_in version t = if int_eq version (pos 1) then create_topic_reply_v1.written (topic_reply_v1 t) else create_topic_reply.written t
