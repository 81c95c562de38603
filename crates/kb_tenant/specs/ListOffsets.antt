-- Offsets that are asked by time (Kafka protocol guide, "The Messages: ListOffsets").
use Rattle.std.specs.Prelude.{ℕ, ℤ, pos, negsuc, Bool, true, false, List, map, Result, Ok, Err, Option, Some, None, int_le, int_lt, if◌then◌else◌}
use Rattle.std.specs.Option.{option_and_then}
use Rattle.std.specs.Ordering.{int_eq}
use Rattle.kb_wire.specs.Codec.{Codec, array, int8, int32, int64, string, via, whole, ◌>>=◌, ◌⊗◌}
use Rattle.kb_wire.specs.declared.fault.WireFault.{WireFault}
use Rattle.kb_api_data.specs.Both.{both}
use Rattle.kb_api_data.specs.Layouts.{list_offsets_request, list_offsets_topic}
use Rattle.kb_api_data.specs.Layouts.{list_offsets_partition_reply, list_offsets_topic_reply, list_offsets_reply}
use Rattle.kb_api_data.specs.declared.both.Both.{Both}
use Rattle.kb_api_data.specs.declared.list_offsets.ListOffsetsPartition.{ListOffsetsPartition}
use Rattle.kb_api_data.specs.declared.list_offsets.ListOffsetsTopic.{ListOffsetsTopic}
use Rattle.kb_api_data.specs.declared.list_offsets.ListOffsetsRequest.{ListOffsetsRequest}
use Rattle.kb_api_data.specs.declared.list_offsets.ListOffsetsPartitionReply.{ListOffsetsPartitionReply}
use Rattle.kb_api_data.specs.declared.list_offsets.ListOffsetsTopicReply.{ListOffsetsTopicReply}
use Rattle.kb_api_data.specs.declared.list_offsets.ListOffsetsReply.{ListOffsetsReply}
use Rattle.kb_wire.specs.ErrorCode.{code_of as code}
use Rattle.kb_wire.specs.declared.error_code.ErrorCode.TheVariants as codes
use Rattle.kb_batch.specs.Time.{first_at}
use Rattle.kb_batch.specs.declared.time.OffsetAndTimestamp.{OffsetAndTimestamp}
use Rattle.kb_topics.specs.Known.{named}
use Rattle.kb_tenant_state.specs.Fault.{code_of as fault_code}
use Rattle.kb_tenant_state.specs.Logs.{LogState}
use Rattle.kb_tenant_state.specs.declared.fault.PartitionFault.{PartitionFault}
use Rattle.kb_tenant_state.specs.World.{World, place_in, log_in}
use Rattle.kb_tenant.specs.Epochs.{no_epoch}

-- no timestamp and no offset
abbrev pub offset_refused : ℤ → ℤ → ListOffsetsPartitionReply
offset_refused partition error = record {
  partition = partition;
  error_code = error;
  timestamp = negsuc 0;
  offset = negsuc 0;
}

abbrev pub offset_answered : ℤ → ℤ → ℤ → ListOffsetsPartitionReply
offset_answered partition timestamp offset = record {
  partition = partition;
  error_code = code codes.None;
  timestamp = timestamp;
  offset = offset;
}

-- an end or a start, of a log that is there
abbrev pub edge_answered : ℤ → Option ℤ → ListOffsetsPartitionReply
edge_answered partition None = offset_refused partition (code codes.UnknownTopicOrPartition)
edge_answered partition (Some offset) = offset_answered partition (negsuc 0) offset

-- a record that was found, or none
abbrev pub offset_found : ℤ → Result (Option OffsetAndTimestamp) PartitionFault → ListOffsetsPartitionReply
offset_found partition (Ok None) = offset_answered partition (negsuc 0) (negsuc 0)
offset_found partition (Ok (Some r)) = offset_answered partition r.timestamp r.offset
offset_found partition (Err fault) = offset_refused partition (fault_code fault)

-- Of a log, timestamp -1 asks the end and -2 the start, and any other the first record from the start on that is not older.
abbrev pub listed_in : ℤ → ℤ → Option LogState → ListOffsetsPartitionReply
listed_in partition timestamp None = offset_refused partition (code codes.UnknownTopicOrPartition)
listed_in partition timestamp (Some l) =
    if int_lt timestamp (negsuc 1) then offset_refused partition (code codes.InvalidRequest)
    else (if int_eq timestamp (negsuc 0) then edge_answered partition (Some (pos l.end))
    else (if int_eq timestamp (negsuc 1) then edge_answered partition (Some (pos l.start))
    else offset_found partition (Ok (first_at timestamp l.start l.batches))))

-- a partition of the topic of an instance
abbrev pub listed_at : World → Option ℕ → ℤ → ℤ → ListOffsetsPartitionReply
listed_at w topic partition timestamp = listed_in partition timestamp (option_and_then (log_in w) (place_in topic partition))

abbrev pub listed : World → Option ℕ → ListOffsetsPartition → ListOffsetsPartitionReply
listed w topic e = listed_at w topic e.partition e.timestamp

abbrev pub listed_topic : World → ListOffsetsTopic → ListOffsetsTopicReply
listed_topic w t = record { name = t.name; partitions = map (listed w (named t.name w.known.topics)) t.partitions }

abbrev pub list_offsets : World → ListOffsetsRequest → ListOffsetsReply
list_offsets w r = record { topics = map (listed_topic w) r.topics }

-- ---- versions from 2 on; any other is version 1

-- From version 2 on a request says behind the replica's id which records of transactions count. None is one, so that it changes nothing.
abbrev pub has_isolation_level : ℤ → Bool
has_isolation_level version = int_le (pos 2) version

-- what a body asks, whatever its isolation level
abbrev pub listing_as : Bool → List ℕ → Result ListOffsetsRequest WireFault
listing_as has body =
    if has then whole (both int32 (both int8 (array list_offsets_topic))) body
    >>= (λ q. Ok (record { replica_id = q.first; topics = q.second.second }))
    else whole list_offsets_request body

-- From version 4 on a partition has an epoch of its leader: in a request behind its number, and in a reply at its end.
abbrev pub has_epochs : ℤ → Bool
has_epochs version = int_le (pos 4) version

-- a request's topic so, and what it asks, whatever its epochs
abbrev pub epoch_topic : Codec (Both (List ℕ) (List (Both ℤ (Both ℤ ℤ))))
epoch_topic = both string (array (both int32 (both int32 int64)))

abbrev pub plain_partition : Both ℤ (Both ℤ ℤ) → ListOffsetsPartition
plain_partition e = record { partition = e.first; timestamp = e.second.second }

abbrev pub plain_topic : Both (List ℕ) (List (Both ℤ (Both ℤ ℤ))) → ListOffsetsTopic
plain_topic t = record { name = t.first; partitions = map plain_partition t.second }

abbrev pub epoch_listing : List ℕ → Result ListOffsetsRequest WireFault
epoch_listing body = whole (both int32 (both int8 (array epoch_topic))) body
    >>= (λ q. Ok (record { replica_id = q.first; topics = map plain_topic q.second.second }))

abbrev pub asked_listing : ℤ → List ℕ → Result ListOffsetsRequest WireFault
asked_listing version body = if has_epochs version then epoch_listing body else listing_as (has_isolation_level version) body

-- a partition's answer, a topic's and the reply, with epochs or without
abbrev pub partition_reply : Bool → Codec ListOffsetsPartitionReply
partition_reply true = via (λ p. p.0) (λ v. (v, no_epoch)) (list_offsets_partition_reply ⊗ int32)
partition_reply false = list_offsets_partition_reply

abbrev pub topic_reply : Bool → Codec ListOffsetsTopicReply
topic_reply true = via (λ p. record { name = p.0; partitions = p.1 }) (λ v. (v.name, v.partitions)) (string ⊗ array (partition_reply true))
topic_reply false = list_offsets_topic_reply

abbrev pub listing_reply : Bool → Codec ListOffsetsReply
listing_reply true = via (λ p. record { topics = p }) (λ v. v.topics) (array (topic_reply true))
listing_reply false = list_offsets_reply

-- the reply in bytes
abbrev pub listing_in : ℤ → ListOffsetsReply → List ℕ
listing_in version r = (listing_reply (has_epochs version)).written r
