-- What a fetch is answered, and whether it waits (Kafka protocol guide, "The Messages: Fetch"). From version 5 on a request tells
-- where a follower's logs start, which nobody asks for here, and a reply where the partition's log does. From version 7 on a request
-- names a fetch session, of which there is none here, and from version 9 on the epoch of a leader, which is ignored. All else is one.
use Rattle.std.specs.Prelude.{ℕ, zero, suc, ℤ, pos, negsuc, Bool, true, false, List, [], Option, Some, None, Result, Ok, Err}
use Rattle.std.specs.Prelude.{length, map, min, nat_le, int_le, not, option_map, ◌+◌, ◌-◌, ◌≡◌, ◌++◌, ◌==◌, ◌&&◌, ◌||◌, if◌then◌else◌}
use Rattle.std.specs.Int.{int_min}
use Rattle.std.specs.List.{filter_map, flat_map, list_any, sum_by}
use Rattle.std.specs.Ordering.{int_eq}
use Rattle.kb_wire.specs.Codec.{array, int16, string, whole, ◌>>=◌}
use Rattle.kb_wire.specs.declared.fault.ReadFault.{ReadFault}
use Rattle.kb_wire.specs.declared.fault.WireFault.{WireFault}
use Rattle.kb_batch.specs.Batch.{natural}
use Rattle.kb_api_data.specs.Both.{both}
use Rattle.kb_api_data.specs.FetchSession.{fetch_partition_v9, fetch_request_v7}
use Rattle.kb_api_data.specs.Layouts.{fetch_request, fetch_request_v5, fetch_topic_v5}
use Rattle.kb_api_data.specs.Layouts.{fetch_partition_reply, fetch_partition_reply_v5, fetch_topic_reply, fetch_topic_reply_v5, fetch_reply}
use Rattle.kb_api_data.specs.Layouts.{fetch_reply_v5}
use Rattle.kb_api_data.specs.declared.fetch.FetchPartition.{FetchPartition}
use Rattle.kb_api_data.specs.declared.fetch.FetchTopic.{FetchTopic}
use Rattle.kb_api_data.specs.declared.fetch.FetchRequest.{FetchRequest}
use Rattle.kb_api_data.specs.declared.fetch.FetchPartitionReply.{FetchPartitionReply}
use Rattle.kb_api_data.specs.declared.fetch.FetchTopicReply.{FetchTopicReply}
use Rattle.kb_api_data.specs.declared.fetch.FetchReply.{FetchReply}
use Rattle.kb_api_data.specs.declared.fetch_v5.FetchPartitionV5.{FetchPartitionV5}
use Rattle.kb_api_data.specs.declared.fetch_v5.FetchTopicV5.{FetchTopicV5}
use Rattle.kb_api_data.specs.declared.fetch_v5.FetchRequestV5.{FetchRequestV5}
use Rattle.kb_api_data.specs.declared.both.Both.{Both}
use Rattle.kb_api_data.specs.declared.fetch_v7.FetchPartitionV9.{FetchPartitionV9}
use Rattle.kb_api_data.specs.declared.fetch_v7.FetchRequestV7.{FetchRequestV7}
use Rattle.kb_api_data.specs.declared.fetch_v5.FetchPartitionReplyV5.{FetchPartitionReplyV5}
use Rattle.kb_api_data.specs.declared.fetch_v5.FetchTopicReplyV5.{FetchTopicReplyV5}
use Rattle.kb_api_data.specs.declared.fetch_v5.FetchReplyV5.{FetchReplyV5}
use Rattle.kb_api_data.specs.declared.fetch_records_v5.FetchPartitionFrontV5.{FetchPartitionFrontV5}
use Rattle.kb_api_data.specs.FetchRecords.{answer_with_v5}
use Rattle.kb_topics.specs.Known.{named}
use Rattle.kb_tenant_state.specs.Fault.{code_of}
use Rattle.kb_tenant_state.specs.declared.fault.PartitionFault.{PartitionFault}
use Rattle.kb_tenant_state.specs.declared.fault.PartitionFault.TheVariants as partition
use Rattle.kb_tenant_state.specs.Logs.{LogState}
use Rattle.kb_tenant_state.specs.Calls.{fetch}
use Rattle.kb_tenant.specs.Turns.{in_turn}
use Rattle.kb_tenant_state.specs.World.{World, log_in, place_in}
use Rattle.kb_tenant.specs.declared.fetch.version.Asked.{Asked}
use Rattle.kb_tenant.specs.declared.fetch.waiting.Fetching.{Fetching}
use Rattle.kb_tenant.specs.declared.fetch.waiting.Fetching.TheVariants as fetching
use Rattle.kb_tenant_state.specs.declared.topic_partition.TopicPartition.{TopicPartition}

-- ---- the versions

abbrev pub has_starts : ℤ → Bool
has_starts version = int_le (pos 5) version

-- what is asked, without the starts of a follower's logs
abbrev pub plain_partition : FetchPartitionV5 → FetchPartition
plain_partition p = record { partition = p.partition; fetch_offset = p.fetch_offset; partition_max_bytes = p.partition_max_bytes }

abbrev pub plain_topic : FetchTopicV5 → FetchTopic
plain_topic t = record { topic = t.topic; partitions = map plain_partition t.partitions }

abbrev pub plain : FetchRequestV5 → FetchRequest
plain r = record {
  replica_id = r.replica_id;
  max_wait_ms = r.max_wait_ms;
  min_bytes = r.min_bytes;
  max_bytes = r.max_bytes;
  isolation_level = r.isolation_level;
  topics = map plain_topic r.topics;
}

-- the same of version 9, without the epochs of leaders
abbrev pub plain_partition_v9 : FetchPartitionV9 → FetchPartition
plain_partition_v9 p = record { partition = p.partition; fetch_offset = p.fetch_offset; partition_max_bytes = p.partition_max_bytes }

abbrev pub plain_topic_v9 : Both (List ℕ) (List FetchPartitionV9) → FetchTopic
plain_topic_v9 t = record { topic = t.first; partitions = map plain_partition_v9 t.second }

-- ---- sessions, from version 7 on

abbrev pub has_session : ℤ → Bool
has_session version = int_le (pos 7) version

abbrev pub has_epochs : ℤ → Bool
has_epochs version = int_le (pos 9) version

-- Whether a fetch is full: it begins a session, by epoch 0, or wants none, by epoch -1. A session that it names is to end then.
abbrev pub is_full : ℤ → Bool
is_full epoch = int_eq epoch (pos 0) || int_eq epoch (negsuc 0)

-- it asks these topics, with that error code of its session
abbrev pub asks : {T : Type 0} → FetchRequestV7 T → ℤ → List FetchTopic → Asked
asks r code topics = record {
  code = code;
  request = record {
    replica_id = r.replica_id;
    max_wait_ms = r.max_wait_ms;
    min_bytes = r.min_bytes;
    max_bytes = r.max_bytes;
    isolation_level = r.isolation_level;
    topics = topics;
  };
}

-- What a request of version 7 asks. Where it is not full it goes on with a session, which is not found (FETCH_SESSION_ID_NOT_FOUND), and
-- it asks nothing. What a session is to forget has no effect.
abbrev pub in_session : {T : Type 0} → (T → FetchTopic) → FetchRequestV7 T → Asked
in_session topic r = if is_full r.session_epoch then asks r (pos 0) (map topic r.topics) else asks r (pos 70) []

-- ---- what a body asks in a version

abbrev pub at_once : FetchRequest → Asked
at_once r = record { code = pos 0; request = r }

abbrev pub asked_as : ℤ → List ℕ → Result Asked WireFault
asked_as version body =
    if has_epochs version then whole (fetch_request_v7 (both string (array fetch_partition_v9))) body
    >>= (λ q. Ok (in_session plain_topic_v9 q))
    else if has_session version then whole (fetch_request_v7 fetch_topic_v5) body >>= (λ q. Ok (in_session plain_topic q))
    else if has_starts version then whole fetch_request_v5 body >>= (λ q. Ok (at_once (plain q)))
    else whole fetch_request body >>= (λ q. Ok (at_once q))

-- the fetch
abbrev pub asked_fetch : ℤ → List ℕ → Result FetchRequest WireFault
asked_fetch version body = asked_as version body >>= (λ a. Ok a.request)

-- the fetch of what was read
abbrev pub request_read : Result Asked ReadFault → Result FetchRequest ReadFault
request_read (Ok a) = Ok a.request
request_read (Err fault) = Err fault

-- the error code of its session
abbrev pub code_read : Result Asked WireFault → ℤ
code_read (Ok a) = a.code
code_read (Err fault) = pos 0

abbrev pub asked_code : ℤ → List ℕ → ℤ
asked_code version body = code_read (asked_as version body)

-- ---- the limits

-- the lesser of a number and a limit; None is no limit
abbrev pub lesser : ℤ → Option ℕ → ℤ
lesser n None = n
lesser n (Some limit) = int_min n (pos limit)

-- The same fetch, with at most so many bytes of records for its whole reply: of its own limit and its tenant's the lesser holds.
abbrev pub bounded : Option ℕ → FetchRequest → FetchRequest
bounded limit r = record r { max_bytes = lesser r.max_bytes limit }

-- what is left of a reply's limits: how many more bytes of records it may have; and whether no partition gave any yet, so that a batch
-- over the limit is given whole
pub record Limits : Type 0 where
  pub left : ℕ
  pub first : Bool

-- Those of a request. Below 0 they count as 0, and that of the whole reply is 8,388,608 at most.
abbrev pub begun : FetchRequest → Limits
begun r = record { left = min (natural r.max_bytes) 8388608; first = true }

-- after so many bytes of records of one more partition
abbrev pub less : Limits → ℕ → Limits
less l n = record { left = l.left - n; first = l.first && (n == 0) }

-- how many bytes of records a partition may give
abbrev pub limit_of : Limits → FetchPartition → ℕ
limit_of l e = min (natural e.partition_max_bytes) l.left

-- ---- one partition; the aborted transactions of each answer are null

-- It is refused: the watermarks and the log's start are -1, and there are no records. The limits are as before.
abbrev pub refusal_of : ℤ → PartitionFault → FetchPartitionFrontV5
refusal_of p f =
    record { partition = p; error_code = code_of f; high_watermark = negsuc 0; last_stable_offset = negsuc 0; log_start_offset = negsuc 0 }

abbrev pub refused : Limits → ℤ → PartitionFault → Limits × FetchPartitionReplyV5
refused l p f = (l, answer_with_v5 (refusal_of p f) [])

-- where a log starts, and where it ends
abbrev pub bounds_of : World → TopicPartition → Option (ℤ × ℤ)
bounds_of w place = option_map (λ (l : LogState). (pos l.start, pos l.end)) (log_in w place)

-- the answer up to the records, of a log with those bounds: both watermarks are its end
abbrev pub front_of : ℤ → ℤ × ℤ → FetchPartitionFrontV5
front_of p bounds =
    record { partition = p; error_code = pos 0; high_watermark = bounds.1; last_stable_offset = bounds.1; log_start_offset = bounds.0 }

-- It gives records.
abbrev pub accepted : Limits → ℤ → ℤ × ℤ → List ℕ → Limits × FetchPartitionReplyV5
accepted l p bounds records = (less l (length records), answer_with_v5 (front_of p bounds) records)

abbrev pub answered_by : Limits → ℤ → Option (ℤ × ℤ) → Result (List ℕ) PartitionFault → Limits × FetchPartitionReplyV5
answered_by l p (Some bounds) (Ok records) = accepted l p bounds records
answered_by l p (Some bounds) (Err f) = refused l p f
answered_by l p None r = refused l p partition.Unknown

-- the records that it gives, within its limit
abbrev pub fetched_at : World → Limits → FetchPartition → TopicPartition → Result (List ℕ) PartitionFault
fetched_at w l e place = fetch w place e.fetch_offset (limit_of l e) l.first

abbrev pub answered_at : World → Limits → FetchPartition → Option TopicPartition → Limits × FetchPartitionReplyV5
answered_at w l e (Some place) = answered_by l e.partition (bounds_of w place) (fetched_at w l e place)
answered_at w l e None = refused l e.partition partition.Unknown

-- an entry of a topic that has this instance, if it is there
abbrev pub fetch_answered : World → Option ℕ → Limits → FetchPartition → Limits × FetchPartitionReplyV5
fetch_answered w topic l e = answered_at w l e (place_in topic e.partition)

-- ---- all partitions

abbrev pub answered_topic : World → Limits → FetchTopic → Limits × FetchTopicReplyV5
answered_topic w l t =
    let r = in_turn (fetch_answered w (named t.topic w.known.topics)) l t.partitions in
    (r.0, record { topic = t.topic; partitions = r.1 })

-- the partitions in order, each within what those before it left
abbrev pub fetched : World → FetchRequest → Limits × FetchReplyV5
fetched w r =
    let f = in_turn (answered_topic w) (begun r) r.topics in
    (f.0, record { throttle_time_ms = pos 0; topics = f.1 })

-- ---- waiting

-- the bytes of a partition's records
abbrev pub size_of : Option (List ℕ) → ℕ
size_of None = 0
size_of (Some records) = length records

abbrev pub records_size : FetchPartitionReplyV5 → ℕ
records_size p = size_of p.records

-- the bytes of all records of a reply
abbrev pub bytes_of : FetchReplyV5 → ℕ
bytes_of reply = sum_by (λ t. sum_by records_size t.partitions) reply.topics

-- some partition of a reply passes a test
abbrev pub some_partition : (FetchPartitionReplyV5 → Bool) → FetchReplyV5 → Bool
some_partition test reply = list_any (λ t. list_any test t.partitions) reply.topics

abbrev pub is_error : ℤ → Bool
is_error (pos zero) = false
is_error (pos (suc n)) = true
is_error (negsuc n) = true

-- A fetch waits no longer for its reply: no partition is asked, or one is refused, or all records have the bytes that are
-- wanted, or the time is over.
abbrev pub is_ready : ℕ → FetchRequest → FetchReplyV5 → ℕ → Bool
is_ready clock r reply deadline =
    not (some_partition (λ p. true) reply)
    || some_partition (λ p. is_error p.error_code) reply
    || nat_le (natural r.min_bytes) (bytes_of reply)
    || nat_le deadline clock

-- Until when a fetch of this moment waits at most; a time below 0 counts as 0.
abbrev pub deadline_of : ℕ → FetchRequest → ℕ
deadline_of clock r = clock + natural r.max_wait_ms

-- what a fetch is answered at a time of the clock, where it waits no longer
abbrev pub fetch_answer : World → ℕ → FetchRequest → ℕ → Option FetchReplyV5
fetch_answer w clock r deadline = let reply = (fetched w r).1 in if is_ready clock r reply deadline then Some reply else None

-- the partitions that a topic's entries ask for
abbrev pub places_in : Option ℕ → List FetchPartition → List TopicPartition
places_in topic entries = filter_map (λ e. place_in topic e.partition) entries

-- the partitions that a fetch asks for, in order
abbrev pub places_of : World → FetchRequest → List TopicPartition
places_of w r = flat_map (λ t. places_in (named t.topic w.known.topics) t.partitions) r.topics

-- ---- what is written: the reply with the starts of the logs, or without them

abbrev pub without_start : FetchPartitionReplyV5 → FetchPartitionReply
without_start p = record {
  partition = p.partition;
  error_code = p.error_code;
  high_watermark = p.high_watermark;
  last_stable_offset = p.last_stable_offset;
  aborted_transactions = p.aborted_transactions;
  records = p.records;
}

abbrev pub topic_without_starts : FetchTopicReplyV5 → FetchTopicReply
topic_without_starts t = record { topic = t.topic; partitions = map without_start t.partitions }

abbrev pub without_starts : FetchReplyV5 → FetchReply
without_starts r = record { throttle_time_ms = r.throttle_time_ms; topics = map topic_without_starts r.topics }

abbrev pub partition_written : Bool → FetchPartitionReplyV5 → List ℕ
partition_written true p = fetch_partition_reply_v5.written p
partition_written false p = fetch_partition_reply.written (without_start p)

-- an answer up to its records
abbrev pub front_written : Bool → FetchPartitionFrontV5 → List ℕ
front_written starts f = partition_written starts (answer_with_v5 f [])

abbrev pub topic_written : Bool → FetchTopicReplyV5 → List ℕ
topic_written true t = fetch_topic_reply_v5.written t
topic_written false t = fetch_topic_reply.written (topic_without_starts t)

abbrev pub reply_written : Bool → FetchReplyV5 → List ℕ
reply_written true r = fetch_reply_v5.written r
reply_written false r = fetch_reply.written (without_starts r)

-- From version 7 on the error code of a session stands in front. Behind it is the id of a session, which is 0 as the throttle time of
-- version 5 is, and the topics. The throttle time of these versions stands in front of all that, and is the connection's.
abbrev pub session_front : ℤ → ℤ → List ℕ
session_front version code = if has_session version then int16.written code else []

-- the reply in a version of the API, with the error code of its session
abbrev pub fetched_as : ℤ → ℤ → FetchReplyV5 → List ℕ
fetched_as version code r = session_front version code ++ reply_written (has_starts version) r

-- the same of a fetch that names no session
abbrev pub fetched_in : ℤ → FetchReplyV5 → List ℕ
fetched_in version r = fetched_as version (pos 0) r

-- The reply was written, or the fetch waits until then and for these partitions, and nothing was written.
abbrev pub IsServed : Bool → World → ℕ → FetchRequest → Option FetchReplyV5 → List ℕ → Fetching → List ℕ → Type 0
IsServed starts w clock r (Some reply) old fetching.Reply new = new ≡ old ++ reply_written starts reply
IsServed starts w clock r (Some reply) old (fetching.Wait deadline keys) new = ⊥
IsServed starts w clock r None old fetching.Reply new = ⊥
IsServed starts w clock r None old (fetching.Wait deadline keys) new =
    (deadline ≡ deadline_of clock r) × (keys.items ≡ places_of w r) × (new ≡ old)

-- The reply was written, or the fetch still waits, and nothing was written.
abbrev pub look_written : Bool → List ℕ → Option FetchReplyV5 → Bool × List ℕ
look_written starts old (Some reply) = (true, old ++ reply_written starts reply)
look_written starts old None = (false, old)
