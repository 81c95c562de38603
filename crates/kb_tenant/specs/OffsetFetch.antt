-- OffsetFetch (Kafka protocol guide, "The Messages: OffsetFetch", versions 1, 2 and 5): which offsets has a group committed?
use Rattle.std.specs.Prelude.{ℕ, ℤ, pos, negsuc, Bool, true, false, List, [], ◌∷◌, ◌++◌, length, map, Option, Some, None, Result, Ok, int_le, if◌then◌else◌}
use Rattle.std.specs.List.{flat_map, range_with_len}
use Rattle.std.specs.Option.{option_and_then}
use Rattle.kb_wire.specs.Codec.{Codec, array, int16, int32, int64, nullable_string, string, via, whole, ◌>>=◌, ◌⊗◌}
use Rattle.kb_wire.specs.ErrorCode.{code_of}
use Rattle.kb_wire.specs.declared.error_code.ErrorCode.TheVariants as codes
use Rattle.kb_wire.specs.declared.fault.WireFault.{WireFault}
use Rattle.kb_api_group.specs.Layouts.{offset_fetch_request, offset_fetch_request_v2, offset_fetch_reply, offset_fetch_reply_v2}
use Rattle.kb_api_group.specs.Layouts.{offset_fetch_partition_reply, offset_fetch_topic_reply}
use Rattle.kb_api_group.specs.declared.offset_fetch.OffsetFetchTopic.{OffsetFetchTopic}
use Rattle.kb_api_group.specs.declared.offset_fetch.OffsetFetchRequest.{OffsetFetchRequest}
use Rattle.kb_api_group.specs.declared.offset_fetch.OffsetFetchPartitionReply.{OffsetFetchPartitionReply}
use Rattle.kb_api_group.specs.declared.offset_fetch.OffsetFetchTopicReply.{OffsetFetchTopicReply}
use Rattle.kb_api_group.specs.declared.offset_fetch.OffsetFetchReply.{OffsetFetchReply}
use Rattle.kb_api_group.specs.declared.offset_fetch_v2.OffsetFetchRequestV2.{OffsetFetchRequestV2}
use Rattle.kb_api_group.specs.declared.offset_fetch_v2.OffsetFetchReplyV2.{OffsetFetchReplyV2}
use Rattle.kb_topics.specs.ByName.{by_name}
use Rattle.kb_topics.specs.Known.{CommittedOffset, TopicState, named}
use Rattle.kb_tenant_state.specs.Calls.{committed}
use Rattle.kb_tenant_state.specs.World.{World, place_in}
use Rattle.kb_tenant.specs.DeleteTopics.{place_at}
use Rattle.kb_tenant.specs.Epochs.{no_epoch}
use Rattle.kb_tenant.specs.Replies.{array_until}

abbrev pub committed_answered : ℤ → ℤ → List ℕ → OffsetFetchPartitionReply
committed_answered partition offset metadata =
    record { partition = partition; offset = offset; metadata = Some metadata; error_code = code_of codes.None }

-- a committed offset and what stands beside it; where nothing is committed, offset -1 and an empty text. Neither is an error.
abbrev pub told : ℤ → Option CommittedOffset → OffsetFetchPartitionReply
told partition (Some c) = committed_answered partition c.offset c.metadata
told partition None = committed_answered partition (negsuc 0) []

-- what a group committed to a partition of the topic of an instance; nothing, where there is no such topic or partition
abbrev pub kept : World → List ℕ → Option ℕ → ℤ → Option CommittedOffset
kept w group topic partition = option_and_then (λ place. committed w place group) (place_in topic partition)

abbrev pub fetched : World → List ℕ → Option ℕ → ℤ → OffsetFetchPartitionReply
fetched w group topic partition = told partition (kept w group topic partition)

abbrev pub fetched_topic : World → List ℕ → OffsetFetchTopic → OffsetFetchTopicReply
fetched_topic w group t = record { name = t.name; partitions = map (fetched w group (named t.name w.known.topics)) t.partitions }

-- ---- all that a group committed

-- the answer for a partition, where something was committed to it
abbrev pub told_if : ℤ → Option CommittedOffset → List OffsetFetchPartitionReply
told_if partition (Some c) = told partition (Some c) ∷ []
told_if partition None = []

abbrev pub told_at : World → List ℕ → ℕ → ℕ → List OffsetFetchPartitionReply
told_at w group instance p = told_if (pos p) (committed w (place_at instance p) group)

-- what a group committed to the first partitions of an instance, so many, by rising number
abbrev pub told_in : World → List ℕ → ℕ → ℕ → List OffsetFetchPartitionReply
told_in w group instance partitions = flat_map (told_at w group instance) (range_with_len 0 partitions)

-- A topic to which it committed nothing is not told.
abbrev pub topic_if : List ℕ → List OffsetFetchPartitionReply → List OffsetFetchTopicReply
topic_if name [] = []
topic_if name (p ∷ ps) = record { name = name; partitions = p ∷ ps } ∷ []

abbrev pub topic_told : World → List ℕ → ℕ × TopicState → List OffsetFetchTopicReply
topic_told w group e = topic_if e.1.name (told_in w group e.0 (length e.1.partitions))

-- the topics that are there and that a group committed to, in byte order of their names
abbrev pub all_told : World → List ℕ → List OffsetFetchTopicReply
all_told w group = flat_map (topic_told w group) (by_name w.known.topics)

-- ---- the reply

-- the topics that are asked in their order, or all that the group committed to
abbrev pub topics_fetched : World → List ℕ → Option (List OffsetFetchTopic) → List OffsetFetchTopicReply
topics_fetched w group None = all_told w group
topics_fetched w group (Some topics) = map (fetched_topic w group) topics

abbrev pub fetched_all : World → OffsetFetchRequestV2 → OffsetFetchReply
fetched_all w q = record { topics = topics_fetched w q.group_id q.topics }

-- ---- versions from 2 on; any other is version 1

-- From version 2 on no topics mean all, and the reply ends with a code of the whole request.
abbrev pub has_code : ℤ → Bool
has_code version = int_le (pos 2) version

-- a request of version 1, as the one of version 2 that asks the same
abbrev pub with_topics : OffsetFetchRequest → OffsetFetchRequestV2
with_topics q = record { group_id = q.group_id; topics = Some q.topics }

-- what a body asks
abbrev pub asked_as : Bool → List ℕ → Result OffsetFetchRequestV2 WireFault
asked_as has body = if has then whole offset_fetch_request_v2 body else whole offset_fetch_request body >>= (λ q. Ok (with_topics q))

abbrev pub asked_offsets : ℤ → List ℕ → Result OffsetFetchRequestV2 WireFault
asked_offsets version body = asked_as (has_code version) body

-- From version 5 on a partition's answer tells the epoch of the leader that wrote what is committed, behind the offset.
abbrev pub has_epochs : ℤ → Bool
has_epochs version = int_le (pos 5) version

-- a partition's answer and a topic's, with epochs or without
abbrev pub partition_reply_v5 : Codec OffsetFetchPartitionReply
partition_reply_v5 = via (λ p. record { partition = p.0; offset = p.1.0; metadata = p.1.1.1.0; error_code = p.1.1.1.1 }) (λ v.
    (v.partition, (v.offset, (no_epoch, (v.metadata, v.error_code))))) (int32 ⊗ int64 ⊗ int32 ⊗ nullable_string ⊗ int16)

abbrev pub topic_reply_v5 : Codec OffsetFetchTopicReply
topic_reply_v5 = via (λ p. record { name = p.0; partitions = p.1 }) (λ v. (v.name, v.partitions)) (string ⊗ array partition_reply_v5)

abbrev pub partition_reply : Bool → Codec OffsetFetchPartitionReply
partition_reply true = partition_reply_v5
partition_reply false = offset_fetch_partition_reply

abbrev pub topic_reply : Bool → Codec OffsetFetchTopicReply
topic_reply true = topic_reply_v5
topic_reply false = offset_fetch_topic_reply

-- The whole request is never refused.
abbrev pub reply_v2 : OffsetFetchReply → OffsetFetchReplyV2
reply_v2 r = record { topics = r.topics; error_code = code_of codes.None }

-- what it says behind the topics
abbrev pub code_in : Bool → List ℕ
code_in has = if has then int16.written (code_of codes.None) else []

-- the reply in bytes, with a code or without, and with epochs or without
abbrev pub offsets_as : Bool → Bool → OffsetFetchReply → List ℕ
offsets_as has epochs r =
    if epochs then (array topic_reply_v5).written r.topics ++ code_in has
    else if has then offset_fetch_reply_v2.written (reply_v2 r) else offset_fetch_reply.written r

abbrev pub offsets_in : ℤ → OffsetFetchReply → List ℕ
offsets_in version r = offsets_as (has_code version) (has_epochs version) r

-- the reply behind some bytes, whose topics are written until these are more than so many
abbrev pub offsets_until : ℕ → Bool → Bool → OffsetFetchReply → List ℕ → List ℕ
offsets_until most has epochs r out = array_until most (topic_reply epochs) out r.topics ++ code_in has
