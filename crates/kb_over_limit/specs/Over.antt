-- How many entries of a reply say that they are past a limit of their tenant (Kafka protocol guide, "Error codes").
use Rattle.std.specs.Prelude.{◌+◌, ℕ, ℤ, pos, int_le, List, Result, Ok, Err, drop, if◌then◌else◌}
use Rattle.std.specs.Ordering.{int_eq}
use Rattle.kb_wire.specs.Codec.{array, int16}
use Rattle.kb_wire.specs.ErrorCode.{code_of}
use Rattle.kb_wire.specs.declared.error_code.ErrorCode.{ErrorCode}
use Rattle.kb_wire.specs.declared.error_code.ErrorCode.TheVariants as codes
use Rattle.kb_wire.specs.declared.fault.WireFault.{WireFault}
use Rattle.kb_wire.specs.declared.api_key.TheConstants.{CREATE_TOPICS, JOIN_GROUP, OFFSET_COMMIT, PRODUCE, SYNC_GROUP}
use Rattle.kb_api_data.specs.Layouts.{create_topic_reply, create_topic_reply_v1, produce_topic_reply}
use Rattle.kb_api_data.specs.ProduceV5.{produce_topic_reply_v5}
use Rattle.kb_api_data.specs.declared.create_topics.CreateTopicReply.{CreateTopicReply}
use Rattle.kb_api_data.specs.declared.create_topics_v1.CreateTopicReplyV1.{CreateTopicReplyV1}
use Rattle.kb_api_data.specs.declared.produce.ProducePartitionReply.{ProducePartitionReply}
use Rattle.kb_api_data.specs.declared.produce.ProduceTopicReply.{ProduceTopicReply}
use Rattle.kb_api_data.specs.declared.produce_v5.ProducePartitionReplyV5.{ProducePartitionReplyV5}
use Rattle.kb_api_data.specs.declared.produce_v5.ProduceTopicReplyV5.{ProduceTopicReplyV5}
use Rattle.kb_api_group.specs.Layouts.{commit_topic_reply}
use Rattle.kb_api_group.specs.declared.offset_commit.CommitPartitionReply.{CommitPartitionReply}
use Rattle.kb_api_group.specs.declared.offset_commit.CommitTopicReply.{CommitTopicReply}
use Rattle.kb_over_limit.specs.Coded.{each}
use Rattle.kb_over_limit.specs.Tally.{counted, fresh, noted}
use Rattle.kb_over_limit.specs.declared.over.OverLimit.{OverLimit}
use Rattle.kb_over_limit.specs.declared.tally.Tally.{Tally}

-- nothing is past a limit
abbrev pub none : OverLimit
none = record { bytes = 0; topics = 0; partitions = 0; offsets = 0; groups = 0; group_bytes = 0 }

-- both together, as far as 64 bits go
abbrev pub both : OverLimit → OverLimit → OverLimit
both a b = record {
  bytes = counted (a.bytes + b.bytes);
  topics = counted (a.topics + b.topics);
  partitions = counted (a.partitions + b.partitions);
  offsets = counted (a.offsets + b.offsets);
  groups = counted (a.groups + b.groups);
  group_bytes = counted (a.group_bytes + b.group_bytes);
}

-- ---- by layout: the entries of a topic, in a reply of Produce, of Produce from version 5 on, and of OffsetCommit

abbrev pub in_produced : ProduceTopicReply → Tally → Tally
in_produced t = each (λ (e : ProducePartitionReply). noted e.error_code) t.partitions

abbrev pub in_produced_v5 : ProduceTopicReplyV5 → Tally → Tally
in_produced_v5 t = each (λ (e : ProducePartitionReplyV5). noted e.error_code) t.partitions

abbrev pub in_committed : CommitTopicReply → Tally → Tally
in_committed t = each (λ (e : CommitPartitionReply). noted e.error_code) t.partitions

-- ---- by API, of the body of a reply

-- what is counted of a value at the front, where there is one, and so much room
abbrev pub read_tally : {A : Type 0} → (A → Tally → Tally) → ℕ → Result (A × List ℕ) WireFault → Tally
read_tally f room (Ok x) = f x.0 (fresh room)
read_tally f room (Err e) = fresh room

-- the batches that are past the limit of bytes
abbrev pub produced : ℤ → List ℕ → ℕ
produced version body =
    if int_le (pos 5) version then (read_tally (each in_produced_v5) 0 ((array produce_topic_reply_v5).read body)).full
    else (read_tally (each in_produced) 0 ((array produce_topic_reply).read body)).full

-- the commits that are past the limit of offsets, or of their texts
abbrev pub committed : List ℕ → ℕ
committed body = (read_tally (each in_committed) 0 ((array commit_topic_reply).read body)).full

-- The topics, where so many more may be made: one that is refused is past the limit of topics behind as many, else past that of partitions.
abbrev pub created : ℤ → ℕ → List ℕ → Tally
created version room body =
    if int_eq version (pos 1)
    then read_tally (each (λ (t : CreateTopicReplyV1). noted t.error_code)) room ((array create_topic_reply_v1).read body)
    else read_tally (each (λ (t : CreateTopicReply). noted t.error_code)) room ((array create_topic_reply).read body)

-- one where the code at the front is that one
abbrev pub is_code : ErrorCode → Result (ℤ × List ℕ) WireFault → ℕ
is_code e (Ok x) = if int_eq x.0 (code_of e) then 1 else 0
is_code e (Err fault) = 0

abbrev pub has_code : ErrorCode → List ℕ → ℕ
has_code e body = is_code e (int16.read body)

-- ---- a reply

-- its body stands behind its size and its correlation id
abbrev pub body_of : List ℕ → List ℕ
body_of reply = drop 8 reply

-- What a reply to a request of that key and version says: 44 (POLICY_VIOLATION) of an entry of Produce, OffsetCommit and CreateTopics, 15
-- (COORDINATOR_NOT_AVAILABLE) and 81 (GROUP_MAX_SIZE_REACHED) of a group.
unfoldable pub told : (key version : ℤ) → ℕ → List ℕ → OverLimit
told key version room reply =
    let body = body_of reply in
    if int_eq key PRODUCE then record none { bytes = produced version body }
    else if int_eq key OFFSET_COMMIT then record none { offsets = committed body }
    else if int_eq key CREATE_TOPICS
    then (let tally = created version room body in record none { topics = tally.full; partitions = tally.beside })
    else if int_eq key JOIN_GROUP
    then record none { groups = has_code codes.CoordinatorNotAvailable body; group_bytes = has_code codes.GroupMaxSizeReached body }
    else if int_eq key SYNC_GROUP then record none { group_bytes = has_code codes.GroupMaxSizeReached body }
    else none
