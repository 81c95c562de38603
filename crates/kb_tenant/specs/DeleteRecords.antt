-- What DeleteRecords makes of a world, and its reply (Kafka protocol guide, "The Messages: DeleteRecords", version 0).
use Rattle.std.specs.Prelude.{ℕ, ℤ, pos, negsuc, List, [], ◌∷◌, ◌++◌, Option, Some, None, Result, Ok, Err}
use Rattle.kb_api_data.specs.declared.delete_records.DeleteRecordsPartition.{DeleteRecordsPartition}
use Rattle.kb_api_data.specs.declared.delete_records.DeleteRecordsTopic.{DeleteRecordsTopic}
use Rattle.kb_api_data.specs.declared.delete_records.DeleteRecordsRequest.{DeleteRecordsRequest}
use Rattle.kb_api_data.specs.declared.delete_records.DeleteRecordsPartitionReply.{DeleteRecordsPartitionReply}
use Rattle.kb_api_data.specs.declared.delete_records.DeleteRecordsTopicReply.{DeleteRecordsTopicReply}
use Rattle.kb_api_data.specs.declared.delete_records.DeleteRecordsReply.{DeleteRecordsReply}
use Rattle.kb_topics.specs.Known.{named}
use Rattle.kb_tenant_state.specs.Fault.{code_of}
use Rattle.kb_tenant_state.specs.declared.fault.PartitionFault.{PartitionFault}
use Rattle.kb_tenant_state.specs.declared.fault.PartitionFault.TheVariants as partition
use Rattle.kb_tenant_state.specs.Calls.{delete_records}
use Rattle.kb_tenant_state.specs.World.{World, place_in}
use Rattle.kb_tenant_state.specs.declared.topic_partition.TopicPartition.{TopicPartition}
use Rattle.kb_tenant.specs.Turns.{in_turn}

-- A partition's answer has its start, or where it is refused -1.
abbrev pub deletion_answered : ℤ → Result ℤ PartitionFault → DeleteRecordsPartitionReply
deletion_answered p (Ok start) = record { partition = p; low_watermark = start; error_code = pos 0 }
deletion_answered p (Err f) = record { partition = p; low_watermark = negsuc 0; error_code = code_of f }

-- its place is told, unless it is refused
abbrev pub told : List TopicPartition → TopicPartition → Result ℤ PartitionFault → List TopicPartition
told places place (Ok start) = places ++ place ∷ []
told places place (Err f) = places

abbrev pub deleted_at : World × List TopicPartition → TopicPartition → ℤ → (World × List TopicPartition) × Result ℤ PartitionFault
deleted_at s place offset = let r = delete_records s.0 place offset in ((r.0, told s.1 place r.1), r.1)

abbrev pub deleted_in : World × List TopicPartition → Option TopicPartition → ℤ → (World × List TopicPartition) × Result ℤ PartitionFault
deleted_in s None offset = (s, Err partition.Unknown)
deleted_in s (Some place) offset = deleted_at s place offset

-- an entry of the topic of an instance
abbrev pub deleted : Option ℕ → World × List TopicPartition → DeleteRecordsPartition → (World × List TopicPartition)
    × DeleteRecordsPartitionReply
deleted topic s e = let r = deleted_in s (place_in topic e.partition) e.offset in (r.0, deletion_answered e.partition r.1)

abbrev pub deleted_topic : World × List TopicPartition → DeleteRecordsTopic → (World × List TopicPartition) × DeleteRecordsTopicReply
deleted_topic s t =
    let r = in_turn (deleted (named t.name s.0.known.topics)) s t.partitions in
    (r.0, record { name = t.name; partitions = r.1 })

-- The entries are served in order, each on what those before it left.
abbrev pub deleted_all : World × List TopicPartition → DeleteRecordsRequest → (World × List TopicPartition) × DeleteRecordsReply
deleted_all s q = let r = in_turn deleted_topic s q.topics in (r.0, record { throttle_time_ms = pos 0; topics = r.1 })
