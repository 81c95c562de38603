-- What DeleteTopics makes of a world, and its reply (Kafka protocol guide, "The Messages: DeleteTopics").
use Rattle.std.specs.Prelude.{ℕ, ℤ, pos, List, [], ◌++◌, length, map, Option, Some, None, if◌then◌else◌}
use Rattle.std.specs.List.{range_with_len}
use Rattle.std.specs.Ordering.{int_eq}
use Rattle.kb_wire.specs.Codec.{int32}
use Rattle.kb_wire.specs.ErrorCode.{code_of}
use Rattle.kb_wire.specs.declared.error_code.ErrorCode.TheVariants as codes
use Rattle.kb_api_data.specs.Layouts.{delete_topics_reply, delete_topics_reply_v1}
use Rattle.kb_api_data.specs.declared.delete_topics.DeleteTopicsRequest.{DeleteTopicsRequest}
use Rattle.kb_api_data.specs.declared.delete_topics.DeleteTopicReply.{DeleteTopicReply}
use Rattle.kb_api_data.specs.declared.delete_topics.DeleteTopicsReply.{DeleteTopicsReply}
use Rattle.kb_api_data.specs.declared.delete_topics_v1.DeleteTopicsReplyV1.{DeleteTopicsReplyV1}
use Rattle.kb_topics.specs.Known.{TopicState, named, topic_at}
use Rattle.kb_tenant_state.specs.Calls.{delete}
use Rattle.kb_tenant.specs.CreateTopics.{code_in}
use Rattle.kb_tenant.specs.Turns.{in_turn}
use Rattle.kb_tenant_state.specs.World.{World}
use Rattle.kb_tenant_state.specs.declared.topic_partition.TopicPartition.{TopicPartition}

-- a partition of an instance
abbrev pub place_at : ℕ → ℕ → TopicPartition
place_at instance p = record { instance = instance; number = p }

-- the first partitions of an instance, so many
abbrev pub places : ℕ → ℕ → List TopicPartition
places instance count = map (place_at instance) (range_with_len 0 count)

abbrev pub places_in : ℕ → Option TopicState → List TopicPartition
places_in instance None = []
places_in instance (Some t) = places instance (length t.partitions)

abbrev pub places_at : World → Option ℕ → List TopicPartition
places_at w None = []
places_at w (Some i) = places_in i (topic_at i w.known.topics)

-- where the partitions of the topic of that name are
abbrev pub places_named : World → List ℕ → List TopicPartition
places_named w name = places_at w (named name w.known.topics)

-- these places where a deletion was answered with no error, and else none
abbrev pub told_if : ℤ → List TopicPartition → List TopicPartition
told_if code ps = if int_eq code (code_of codes.None) then ps else []

-- A topic is deleted, if it is there, and its partitions are told behind those that were told before.
abbrev pub deleted : World × List TopicPartition → List ℕ → (World × List TopicPartition) × ℤ
deleted s name =
    let r = delete s.0 name in
    ((r.0, s.1 ++ places_named s.0 name), code_in r.1)

-- a name of a request
abbrev pub deleted_topic : World × List TopicPartition → List ℕ → (World × List TopicPartition) × DeleteTopicReply
deleted_topic s name = let r = deleted s name in (r.0, record { name = name; error_code = r.1 })

-- The topics are deleted in order.
abbrev pub deleted_all : World × List TopicPartition → DeleteTopicsRequest → (World × List TopicPartition) × DeleteTopicsReply
deleted_all s q = let r = in_turn deleted_topic s q.names in (r.0, record { topics = r.1 })

-- ---- version 1; any other is version 0

-- Version 1 tells how long the client is held back, which is never.
abbrev pub reply_v1 : DeleteTopicsReply → DeleteTopicsReplyV1
reply_v1 r = record { throttle_time_ms = pos 0; topics = r.topics }

-- the reply in bytes
abbrev pub deletions_in : ℤ → DeleteTopicsReply → List ℕ
deletions_in version r = if int_eq version (pos 1) then delete_topics_reply_v1.written (reply_v1 r) else delete_topics_reply.written r

-- what it says before the topics
abbrev pub throttle_in : ℤ → List ℕ
throttle_in version = if int_eq version (pos 1) then int32.written (pos 0) else []
