-- What a fetch of one partition asks, and what it is answered (Kafka protocol guide, "The Messages: Fetch").
use Rattle.std.specs.Prelude.{◌&&◌, ◌||◌, ℕ, ℤ, pos, negsuc, nat_lt, int_lt, if◌then◌else◌, Bool, List, [], ◌∷◌, length, Option, Some, None}
use Rattle.std.specs.Prelude.{Result, Ok, Err}
use Rattle.std.specs.Ordering.{int_eq}
use Rattle.kb_wire.specs.Codec.{whole}
use Rattle.kb_wire.specs.ErrorCode.{code_of}
use Rattle.kb_wire.specs.declared.api_key.TheConstants.{FETCH}
use Rattle.kb_wire.specs.declared.error_code.ErrorCode.TheVariants.{OffsetOutOfRange, UnknownTopicOrPartition}
use Rattle.kb_wire.specs.declared.fault.WireFault.{WireFault}
use Rattle.kb_api_group.specs.Layouts.{request_header}
use Rattle.kb_api_group.specs.declared.header.RequestHeader.{RequestHeader}
use Rattle.kb_api_data.specs.Layouts.{fetch_request_v5, fetch_reply_v5}
use Rattle.kb_api_data.specs.declared.fetch_v5.FetchRequestV5.{FetchRequestV5}
use Rattle.kb_api_data.specs.declared.fetch_v5.FetchTopicV5.{FetchTopicV5}
use Rattle.kb_api_data.specs.declared.fetch_v5.FetchPartitionV5.{FetchPartitionV5}
use Rattle.kb_api_data.specs.declared.fetch_v5.FetchReplyV5.{FetchReplyV5}
use Rattle.kb_api_data.specs.declared.fetch_v5.FetchPartitionReplyV5.{FetchPartitionReplyV5}
use Rattle.kb_client_spec.specs.Partition.{Log, batch_bytes, batches_given}

-- 1. What it asks

pub record Fetch : Type 0 where
  pub topic : List ℕ
  pub index : ℤ
  pub offset : ℤ

abbrev pub part_in : List ℕ → List FetchPartitionV5 → Option Fetch
part_in topic [] = None
part_in topic (p ∷ []) = Some (record { topic = topic; index = p.partition; offset = p.fetch_offset })
part_in topic (p ∷ q ∷ ps) = None

abbrev pub part_of : List FetchTopicV5 → Option Fetch
part_of [] = None
part_of (t ∷ []) = part_in t.topic t.partitions
part_of (t ∷ u ∷ ts) = None

abbrev pub if_fetch : Result FetchRequestV5 WireFault → Option Fetch
if_fetch (Err fault) = None
if_fetch (Ok v) = part_of v.topics

abbrev pub fetch_in : Result (RequestHeader × List ℕ) WireFault → Option Fetch
fetch_in (Err fault) = None
fetch_in (Ok h) = if int_eq h.0.api_key FETCH && int_eq h.0.api_version (pos 5) then if_fetch (whole fetch_request_v5 h.1) else None

-- the fetch that a frame is, if it is one
unfoldable pub fetch_of : List ℕ → Option Fetch
fetch_of frame = fetch_in (request_header.read frame)

-- 2. What it is answered

-- a partition's answer: an error code, the end as both watermarks, the log's start, and records
abbrev pub partition_reply : ℤ → ℤ → ℤ → ℤ → List ℕ → FetchPartitionReplyV5
partition_reply index code end start records = record {
  partition = index;
  error_code = code;
  high_watermark = end;
  last_stable_offset = end;
  log_start_offset = start;
  aborted_transactions = None;
  records = Some records;
}

-- it is refused: the watermarks and the start are -1, and there are no records
abbrev pub refused_partition : ℤ → ℤ → FetchPartitionReplyV5
refused_partition index code = partition_reply index code (negsuc 0) (negsuc 0) []

-- it gives records
abbrev pub accepted : ℤ → Log → List ℕ → FetchPartitionReplyV5
accepted index l records = partition_reply index (pos 0) l.end l.start records

-- how many batches are given behind the first: with it they have at most 1,048,588 bytes, or there is none
abbrev pub fitting : ℕ → ℤ → List (List ℕ) → ℕ
fitting n offset batches = if nat_lt 1048588 (length (batch_bytes (batches_given n offset batches))) then 0 else n

-- the records: one batch and n more, if there is room for them
abbrev pub records_given : ℕ → ℤ → List (List ℕ) → List ℕ
records_given n offset batches = batch_bytes (batches_given (fitting n offset batches) offset batches)

-- an offset below the start, or above the end
abbrev pub is_out_of_range : Log → ℤ → Bool
is_out_of_range l offset = int_lt offset l.start || int_lt l.end offset

-- Where there is no such partition it is refused with error 3, and where the offset is out of range with error 1.
abbrev pub partition_answer : ℕ → Fetch → Option Log → FetchPartitionReplyV5
partition_answer n f None = refused_partition f.index (code_of UnknownTopicOrPartition)
partition_answer n f (Some l) =
    if is_out_of_range l f.offset then refused_partition f.index (code_of OffsetOutOfRange)
    else accepted f.index l (records_given n f.offset l.batches)

-- the reply that has the answer of its partition
abbrev pub reply_of : Fetch → FetchPartitionReplyV5 → FetchReplyV5
reply_of f p = record { throttle_time_ms = pos 0; topics = record { topic = f.topic; partitions = p ∷ [] } ∷ [] }

abbrev pub reply_body : Fetch → FetchPartitionReplyV5 → List ℕ
reply_body f p = fetch_reply_v5.written (reply_of f p)
