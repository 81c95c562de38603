-- Produce (Kafka protocol guide, "The Messages: Produce"): each entry offers a batch to a partition, and is answered with the batch's
-- base offset or an error code. From version 5 on a reply tells where the partition's log starts, too. All else is one.
use Rattle.std.specs.Prelude.{ℕ, zero, suc, ℤ, pos, negsuc, Bool, true, false, List, [], ◌∷◌, ◌++◌, Option, Some, None, Result, Ok, Err}
use Rattle.std.specs.Prelude.{length, map, nat_lt, int_le, option_map, not, ◌||◌, if◌then◌else◌}
use Rattle.std.specs.Option.{option_and_then}
use Rattle.std.specs.Ordering.{int_eq}
use Rattle.kb_batch.specs.Batch.{first_fault}
use Rattle.kb_batch.specs.Header.{producer_id_of}
use Rattle.kb_batch.specs.declared.fault.BatchFault.{BatchFault}
use Rattle.kb_batch.specs.declared.fault.BatchFault.TheVariants as fault
use Rattle.kb_wire.specs.ErrorCode.{code_of}
use Rattle.kb_wire.specs.declared.error_code.ErrorCode.{ErrorCode}
use Rattle.kb_wire.specs.declared.error_code.ErrorCode.TheVariants as error
use Rattle.kb_api_data.specs.Layouts.{produce_partition_reply, produce_topic_reply, produce_reply}
use Rattle.kb_api_data.specs.ProduceV5.{produce_partition_reply_v5, produce_topic_reply_v5, produce_reply_v5}
use Rattle.kb_api_data.specs.declared.produce.ProducePartition.{ProducePartition}
use Rattle.kb_api_data.specs.declared.produce.ProduceTopic.{ProduceTopic}
use Rattle.kb_api_data.specs.declared.produce.ProduceRequest.{ProduceRequest}
use Rattle.kb_api_data.specs.declared.produce.ProducePartitionReply.{ProducePartitionReply}
use Rattle.kb_api_data.specs.declared.produce.ProduceTopicReply.{ProduceTopicReply}
use Rattle.kb_api_data.specs.declared.produce.ProduceReply.{ProduceReply}
use Rattle.kb_api_data.specs.declared.produce_v5.ProducePartitionReplyV5.{ProducePartitionReplyV5}
use Rattle.kb_api_data.specs.declared.produce_v5.ProduceTopicReplyV5.{ProduceTopicReplyV5}
use Rattle.kb_api_data.specs.declared.produce_v5.ProduceReplyV5.{ProduceReplyV5}
use Rattle.kb_producers.specs.declared.verdict.Verdict.{Verdict}
use Rattle.kb_producers.specs.declared.verdict.Verdict.TheVariants.{Append, Repeat, Refuse}
use Rattle.kb_topics.specs.Known.{named}
use Rattle.kb_tenant_state.specs.Fault.{code_of as partition_code}
use Rattle.kb_tenant_state.specs.Logs.{LogState}
use Rattle.kb_tenant_state.specs.declared.fault.PartitionFault.{PartitionFault}
use Rattle.kb_tenant_state.specs.World.{World, log_in, place_in}
use Rattle.kb_tenant_state.specs.Calls.{append, judged, start_of}
use Rattle.kb_tenant.specs.Limits.{is_past, left_of}
use Rattle.kb_tenant_state.specs.Stored.{stored_in}
use Rattle.kb_tenant.specs.Turns.{in_turn}
use Rattle.kb_tenant_state.specs.declared.topic_partition.TopicPartition.{TopicPartition}

-- how far a produce came: the world, and where batches were appended, in order
pub record Progress : Type 0 where
  pub world : World
  pub touched : List TopicPartition

abbrev pub progress : World → List TopicPartition → Progress
progress w places = record { world = w; touched = places }

-- ---- the whole request

-- what each entry is refused for: a transaction, or acks that are neither 0, 1 nor -1
abbrev pub refusal_of : Option (List ℕ) → ℤ → Option ℤ
refusal_of (Some id) acks = Some (code_of error.InvalidRequest)
refusal_of None acks =
    if int_eq acks (pos 0) || int_eq acks (pos 1) || int_eq acks (negsuc 0) then None else Some (code_of error.InvalidRequiredAcks)

-- ---- one batch

-- the error for each test of a batch
abbrev pub error_of : BatchFault → ErrorCode
error_of fault.Short = error.CorruptMessage
error_of fault.Length = error.CorruptMessage
error_of fault.Trailing = error.InvalidRecord
error_of fault.Magic = error.UnsupportedForMessageFormat
error_of fault.TooLarge = error.MessageTooLarge
error_of fault.Compression = error.UnsupportedCompressionType
error_of fault.Attributes = error.InvalidRecord
error_of fault.Checksum = error.CorruptMessage
error_of fault.Record = error.InvalidRecord

abbrev pub read_unless : List ℕ → Option BatchFault → Result (List ℕ) ℤ
read_unless bytes None = Ok bytes
read_unless bytes (Some f) = Err (code_of (error_of f))

-- the batch that the records are, or the error of the first test that they fail
abbrev pub batch_in : Option (List ℕ) → Result (List ℕ) ℤ
batch_in None = Err (code_of error.CorruptMessage)
batch_in (Some bytes) = read_unless bytes (first_fault bytes)

-- the producer has no id, or one that was given out
abbrev pub is_issued : ℕ → ℤ → Bool
is_issued issues (pos id) = nat_lt id issues
is_issued issues (negsuc zero) = true
is_issued issues (negsuc (suc n)) = false

-- what becomes of a batch, if there is such a partition
abbrev pub verdict_on : World → TopicPartition → List ℕ → Option Verdict
verdict_on w place batch =
    if is_issued w.known.issues (producer_id_of batch) then judged w place batch else Some (Refuse (code_of error.UnknownProducerId))

-- ---- one entry, its answer a base offset or an error code

abbrev pub appended_at : Progress → TopicPartition → World × Result ℤ PartitionFault → Progress × Result ℤ ℤ
appended_at p place (w, Ok base) = (progress w (p.touched ++ place ∷ []), Ok base)
appended_at p place (w, Err f) = (progress w p.touched, Err (partition_code f))

-- whether a tenant that may have so many bytes of batches may not have this one, too
abbrev pub is_full : Option ℕ → World → List ℕ → Bool
is_full limit w batch = is_past (left_of limit (stored_in w)) (length batch)

abbrev pub appended_unless_full : Bool → Progress → TopicPartition → List ℕ → Progress × Result ℤ ℤ
appended_unless_full true p place batch = (p, Err (code_of error.PolicyViolation))
appended_unless_full false p place batch = appended_at p place (append p.world place batch)

abbrev pub decided : Option ℕ → Progress → TopicPartition → List ℕ → Option Verdict → Progress × Result ℤ ℤ
decided limit p place batch None = (p, Err (code_of error.UnknownTopicOrPartition))
decided limit p place batch (Some Append) = appended_unless_full (is_full limit p.world batch) p place batch
decided limit p place batch (Some (Repeat base)) = (p, Ok base)
decided limit p place batch (Some (Refuse code)) = (p, Err code)

-- A batch for a partition is appended, unless it is there already, is refused, or is past the tenant's limit of bytes.
abbrev pub offered : Option ℕ → Progress → TopicPartition → List ℕ → Progress × Result ℤ ℤ
offered limit p place batch = decided limit p place batch (verdict_on p.world place batch)

abbrev pub offered_unless : Option ℕ → Progress → TopicPartition → Result (List ℕ) ℤ → Progress × Result ℤ ℤ
offered_unless limit p place (Ok batch) = offered limit p place batch
offered_unless limit p place (Err code) = (p, Err code)

-- the place, if a partition is there
abbrev pub known_place : World → Option TopicPartition → Option TopicPartition
known_place w None = None
known_place w (Some place) = option_map (λ (l : LogState). place) (log_in w place)

-- An unknown partition is answered before the batch is looked at.
abbrev pub tried : Option ℕ → Progress → Option TopicPartition → Option (List ℕ) → Progress × Result ℤ ℤ
tried limit p None records = (p, Err (code_of error.UnknownTopicOrPartition))
tried limit p (Some place) records = offered_unless limit p place (batch_in records)

-- the reply for an entry: its base offset and the start of its partition's log, or an error code
abbrev pub answer : ℤ → Result (ℤ × ℤ) ℤ → ProducePartitionReplyV5
answer index (Ok offsets) = record {
  index = index;
  error_code = code_of error.None;
  base_offset = offsets.0;
  log_append_time_ms = negsuc 0;
  log_start_offset = offsets.1;
}
answer index (Err code) = record {
  index = index;
  error_code = code;
  base_offset = negsuc 0;
  log_append_time_ms = negsuc 0;
  log_start_offset = negsuc 0;
}

abbrev pub or_none : Option ℤ → ℤ
or_none None = negsuc 0
or_none (Some offset) = offset

-- the offset that the log at a place starts at; -1 where there is no log
abbrev pub start_at : World → Option TopicPartition → ℤ
start_at w place = or_none (option_and_then (start_of w) place)

-- a base offset, and the start of its partition's log
abbrev pub beside_start : ℤ → Result ℤ ℤ → Result (ℤ × ℤ) ℤ
beside_start start (Ok base) = Ok (base, start)
beside_start start (Err code) = Err code

abbrev pub produce_answered : Option ℕ → ℤ → Progress × Result ℤ ℤ → Progress × ProducePartitionReplyV5
produce_answered topic index r = (r.0, answer index (beside_start (start_at r.0.world (place_in topic index)) r.1))

-- An entry of a topic: its partition gets the batch, unless the whole request is refused.
abbrev pub entry_served : Option ℕ → Option ℤ → Option ℕ → Progress → ProducePartition → Progress × ProducePartitionReplyV5
entry_served limit (Some code) topic p e = (p, answer e.index (Err code))
entry_served limit None topic p e = produce_answered topic e.index (tried limit p (known_place p.world (place_in topic e.index)) e.records)

-- ---- all of them, in turn

abbrev pub answered_topic : List ℕ → Progress × List ProducePartitionReplyV5 → Progress × ProduceTopicReplyV5
answered_topic name r = (r.0, record { name = name; partitions = r.1 })

abbrev pub served_topic : Option ℕ → Option ℤ → Progress → ProduceTopic → Progress × ProduceTopicReplyV5
served_topic limit refusal p t =
    answered_topic t.name (in_turn (entry_served limit refusal (named t.name p.world.known.topics)) p t.partitions)

abbrev pub replied : Progress × List ProduceTopicReplyV5 → Progress × ProduceReplyV5
replied r = (r.0, record { topics = r.1; throttle_time_ms = pos 0 })

-- what a produce makes of a world and of the places where batches were appended before it, and its reply
abbrev pub produced : Option ℕ → World → List TopicPartition → ProduceRequest → Progress × ProduceReplyV5
produced limit w touched request =
    replied (in_turn (served_topic limit (refusal_of request.transactional_id request.acks)) (progress w touched) request.topics)

-- one reply, written behind what was written before
abbrev pub written_next : {S A : Type 0} → (A → List ℕ) → List ℕ → S × A → S × List ℕ
written_next write out r = (r.0, out ++ write r.1)

-- bytes of a reply, where there is one
abbrev pub where_due : Bool → List ℕ → List ℕ
where_due true bytes = bytes
where_due false bytes = []

-- acks 0 has no reply
abbrev pub is_due : ℤ → Bool
is_due acks = not (int_eq acks (pos 0))

-- ---- what is written: the reply with the starts of the logs, or without them

abbrev pub tells_starts : ℤ → Bool
tells_starts version = int_le (pos 5) version

abbrev pub without_start : ProducePartitionReplyV5 → ProducePartitionReply
without_start x = record {
  index = x.index;
  error_code = x.error_code;
  base_offset = x.base_offset;
  log_append_time_ms = x.log_append_time_ms;
}

abbrev pub topic_without_starts : ProduceTopicReplyV5 → ProduceTopicReply
topic_without_starts t = record { name = t.name; partitions = map without_start t.partitions }

abbrev pub without_starts : ProduceReplyV5 → ProduceReply
without_starts r = record { topics = map topic_without_starts r.topics; throttle_time_ms = r.throttle_time_ms }

abbrev pub entry_written : Bool → ProducePartitionReplyV5 → List ℕ
entry_written true x = produce_partition_reply_v5.written x
entry_written false x = produce_partition_reply.written (without_start x)

abbrev pub topic_written : Bool → ProduceTopicReplyV5 → List ℕ
topic_written true t = produce_topic_reply_v5.written t
topic_written false t = produce_topic_reply.written (topic_without_starts t)

abbrev pub reply_written : Bool → ProduceReplyV5 → List ℕ
reply_written true r = produce_reply_v5.written r
reply_written false r = produce_reply.written (without_starts r)

-- the reply in a version of the API
abbrev pub produced_in : ℤ → ProduceReplyV5 → List ℕ
produced_in version r = reply_written (tells_starts version) r

abbrev pub reply_bytes : Bool → ℤ → ProduceReplyV5 → List ℕ
reply_bytes starts acks reply = where_due (is_due acks) (reply_written starts reply)
