-- OffsetCommit (Kafka protocol guide, "The Messages: OffsetCommit", versions 1, 2, 5 and 6): a group records how far it has processed partitions.
-- Whether all entries of a request are refused is a parameter of `committed_all`. This crate's own `served` is that of a tenant whose
-- groups have no members: there only a consumer that chooses its partitions itself commits, and it names a generation below 0.
use Rattle.std.specs.Prelude.{ℕ, ℤ, pos, negsuc, Bool, true, false, List, [], ◌+◌, ◌-◌, length, Option, Some, None, is_some, not, int_lt, ◌==◌, ◌&&◌, ◌||◌}
use Rattle.std.specs.Prelude.{Result, Ok, int_le, map, if◌then◌else◌}
use Rattle.kb_wire.specs.Codec.{Codec, array, int32, int64, nullable_string, string, whole, ◌>>=◌}
use Rattle.kb_wire.specs.ErrorCode.{code_of}
use Rattle.kb_wire.specs.declared.error_code.ErrorCode.TheVariants as codes
use Rattle.kb_wire.specs.declared.fault.WireFault.{WireFault}
use Rattle.kb_api_data.specs.Both.{both}
use Rattle.kb_api_data.specs.declared.both.Both.{Both}
use Rattle.kb_api_group.specs.Layouts.{commit_topic, offset_commit_request}
use Rattle.kb_api_group.specs.declared.offset_commit.CommitPartition.{CommitPartition}
use Rattle.kb_api_group.specs.declared.offset_commit.CommitPartitionReply.{CommitPartitionReply}
use Rattle.kb_api_group.specs.declared.offset_commit.CommitTopic.{CommitTopic}
use Rattle.kb_api_group.specs.declared.offset_commit.CommitTopicReply.{CommitTopicReply}
use Rattle.kb_api_group.specs.declared.offset_commit.OffsetCommitRequest.{OffsetCommitRequest}
use Rattle.kb_api_group.specs.declared.offset_commit.OffsetCommitReply.{OffsetCommitReply}
use Rattle.kb_topics.specs.Known.{named}
use Rattle.kb_topics.specs.Refusals.{commit_refusal}
use Rattle.kb_tenant_state.specs.Calls.{commit, committed as committed_to, known_at}
use Rattle.kb_tenant_state.specs.Stored.{offsets_in, text_of, texts_in}
use Rattle.kb_tenant_state.specs.World.{World, place_in}
use Rattle.kb_tenant_state.specs.declared.topic_partition.TopicPartition.{TopicPartition}
use Rattle.kb_tenant.specs.CreateTopics.{code_in}
use Rattle.kb_tenant.specs.Limits.{is_past, left_of}
use Rattle.kb_tenant.specs.Turns.{in_turn}
use Rattle.kb_tenant.specs.declared.limits.DataLimits.{DataLimits}

-- what each entry is refused for, where groups have no members: the group has no name, or a member of it commits, and it has none
abbrev pub refusal_of : List ℕ → ℤ → Option ℤ
refusal_of group generation =
    if length group == 0 then Some (code_of codes.InvalidGroupId)
    else (if int_lt generation (pos 0) then None else Some (code_of codes.UnknownMemberId))

-- what is kept beside an offset; null is kept as an empty text
abbrev pub metadata_in : Option (List ℕ) → List ℕ
metadata_in None = []
metadata_in (Some text) = text

-- ---- one entry, its answer an error code

-- whether the partition is there, and takes what is to be kept beside the offset
abbrev pub is_takeable : World → TopicPartition → List ℕ → Bool
is_takeable w place metadata = not (is_some (commit_refusal metadata (known_at w.known place)))

-- Whether an offset is one more than the tenant may have: nothing else refuses it, and its group has committed none to the partition.
abbrev pub is_one_too_many : DataLimits → World → TopicPartition → List ℕ → List ℕ → Bool
is_one_too_many limits w place group metadata =
    is_takeable w place metadata && (not (is_some (committed_to w place group)) && is_past limits.offsets (offsets_in w.known + 1))

-- How many bytes of texts more a commit brings: those of its group's id and of what is kept beside the offset, less those of what the group
-- has at the partition.
abbrev pub text_brought : World → TopicPartition → List ℕ → List ℕ → ℕ
text_brought w place group metadata = length group + length metadata - text_of group (committed_to w place group)

-- Whether an offset brings more text than is left of what the tenant may have: nothing else refuses it. One that brings none never does.
abbrev pub brings_too_much : DataLimits → World → TopicPartition → List ℕ → List ℕ → Bool
brings_too_much limits w place group metadata =
    is_takeable w place metadata && is_past (left_of limits.group_bytes (texts_in w.known)) (text_brought w place group metadata)

-- whether the tenant's limits refuse an offset
abbrev pub is_over_limits : DataLimits → World → TopicPartition → List ℕ → List ℕ → Bool
is_over_limits limits w place group metadata = is_one_too_many limits w place group metadata || brings_too_much limits w place group metadata

abbrev pub committed_unless_full : Bool → World → TopicPartition → List ℕ → ℤ → List ℕ → World × ℤ
committed_unless_full true w place group offset metadata = (w, code_of codes.PolicyViolation)
committed_unless_full false w place group offset metadata = let r = commit w place group offset metadata in (r.0, code_in r.1)

abbrev pub committed_at : DataLimits → World → Option TopicPartition → List ℕ → CommitPartition → World × ℤ
committed_at limits w None group e = (w, code_of codes.UnknownTopicOrPartition)
committed_at limits w (Some place) group e =
    let metadata = metadata_in e.metadata in
    committed_unless_full (is_over_limits limits w place group metadata) w place group e.offset metadata

-- An entry of the topic of an instance: its partition gets the group's offset, unless the whole request is refused.
abbrev pub committed : DataLimits → Option ℤ → List ℕ → Option ℕ → World → CommitPartition → World × ℤ
committed limits (Some code) group topic w e = (w, code)
committed limits None group topic w e = committed_at limits w (place_in topic e.partition) group e

abbrev pub commit_answered : ℤ → World × ℤ → World × CommitPartitionReply
commit_answered partition r = (r.0, record { partition = partition; error_code = r.1 })

abbrev pub committed_entry : DataLimits → Option ℤ → List ℕ → Option ℕ → World → CommitPartition → World × CommitPartitionReply
committed_entry limits refusal group topic w e = commit_answered e.partition (committed limits refusal group topic w e)

-- ---- all of them, in turn

abbrev pub answered_topic : List ℕ → World × List CommitPartitionReply → World × CommitTopicReply
answered_topic name r = (r.0, record { name = name; partitions = r.1 })

abbrev pub committed_topic : DataLimits → Option ℤ → List ℕ → World → CommitTopic → World × CommitTopicReply
committed_topic limits refusal group w t =
    answered_topic t.name (in_turn (committed_entry limits refusal group (named t.name w.known.topics)) w t.partitions)

-- The entries are served in order, each on what the one before it left, or all are refused.
abbrev pub committed_all : DataLimits → World → Option ℤ → OffsetCommitRequest → World × OffsetCommitReply
committed_all limits w refusal q =
    let r = in_turn (committed_topic limits refusal q.group_id) w q.topics in (r.0, record { topics = r.1 })

-- ---- versions up to 1, from 5 on and from 6 on; any other is version 2

-- From version 5 on a request has no retention time, which has no effect.
abbrev pub has_retention_time : ℤ → Bool
has_retention_time version = int_lt version (pos 5)

-- what a body asks
abbrev pub commit_as : Bool → List ℕ → Result OffsetCommitRequest WireFault
commit_as has body =
    if has then whole offset_commit_request body
    else whole (both string (both int32 (both string (array commit_topic)))) body >>= (λ q. Ok (record {
      group_id = q.first;
      generation_id = q.second.first;
      member_id = q.second.second.first;
      retention_time_ms = negsuc 0;
      topics = q.second.second.second;
    }))

-- An entry with a field more behind its offset, which has no effect: a timestamp in version 1, and from version 6 on a leader's epoch.
abbrev pub entry_with : {X : Type 0} → Codec X → Codec (Both ℤ (Both ℤ (Both X (Option (List ℕ)))))
entry_with field = both int32 (both int64 (both field nullable_string))

abbrev pub topic_with : {X : Type 0} → Codec X → Codec (Both (List ℕ) (List (Both ℤ (Both ℤ (Both X (Option (List ℕ)))))))
topic_with field = both string (array (entry_with field))

-- the same without it
abbrev pub plain_entry : {X : Type 0} → Both ℤ (Both ℤ (Both X (Option (List ℕ)))) → CommitPartition
plain_entry e = record { partition = e.first; offset = e.second.first; metadata = e.second.second.second }

abbrev pub plain_topic : {X : Type 0} → Both (List ℕ) (List (Both ℤ (Both ℤ (Both X (Option (List ℕ)))))) → CommitTopic
plain_topic t = record { name = t.first; partitions = map plain_entry t.second }

abbrev pub request_with : {X : Type 0} → Codec X
    → Codec (Both (List ℕ) (Both ℤ (Both (List ℕ) (List (Both (List ℕ) (List (Both ℤ (Both ℤ (Both X (Option (List ℕ)))))))))))
request_with field = both string (both int32 (both string (array (topic_with field))))

-- a request of such entries has no retention time either
abbrev pub plain : {X : Type 0} → Both (List ℕ) (Both ℤ (Both (List ℕ) (List (Both (List ℕ) (List (Both ℤ (Both ℤ (Both X (Option (List ℕ))))))))))
    → OffsetCommitRequest
plain q = record {
  group_id = q.first;
  generation_id = q.second.first;
  member_id = q.second.second.first;
  retention_time_ms = negsuc 0;
  topics = map plain_topic q.second.second.second;
}

-- what a body asks whose entries have such a field
abbrev pub commit_with : {X : Type 0} → Codec X → List ℕ → Result OffsetCommitRequest WireFault
commit_with field body = whole (request_with field) body >>= (λ q. Ok (plain q))

abbrev pub asked_commit : ℤ → List ℕ → Result OffsetCommitRequest WireFault
asked_commit version body =
    if int_lt version (pos 2) then commit_with int64 body
    else if int_le (pos 6) version then commit_with int32 body
    else commit_as (has_retention_time version) body
