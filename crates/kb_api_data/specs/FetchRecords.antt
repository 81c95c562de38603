-- A partition's answer in a reply of Fetch, whose records are appended behind its front.
use Rattle.std.specs.Prelude.{ℕ, List, [], Some, None}
use Rattle.kb_api_data.specs.declared.fetch.FetchPartitionReply.{FetchPartitionReply}
use Rattle.kb_api_data.specs.declared.fetch_v5.FetchPartitionReplyV5.{FetchPartitionReplyV5}
use Rattle.kb_api_data.specs.declared.fetch_records.FetchPartitionFront.{FetchPartitionFront}
use Rattle.kb_api_data.specs.declared.fetch_records_v5.FetchPartitionFrontV5.{FetchPartitionFrontV5}
use Rattle.kb_api_data.specs.Layouts.{fetch_partition_reply, fetch_partition_reply_v5}

-- The answer with these records.
abbrev pub answer_with : FetchPartitionFront → List ℕ → FetchPartitionReply
answer_with f records = record {
  partition = f.partition;
  error_code = f.error_code;
  high_watermark = f.high_watermark;
  last_stable_offset = f.last_stable_offset;
  aborted_transactions = None;
  records = Some records;
}

-- The answer with these records, as it is written.
abbrev pub answer_written : FetchPartitionFront → List ℕ → List ℕ
answer_written f records = fetch_partition_reply.written (answer_with f records)

-- What is written before the records: the answer with none.
abbrev pub answer_front : FetchPartitionFront → List ℕ
answer_front f = answer_written f []

-- The same, of version 5.
abbrev pub answer_with_v5 : FetchPartitionFrontV5 → List ℕ → FetchPartitionReplyV5
answer_with_v5 f records = record {
  partition = f.partition;
  error_code = f.error_code;
  high_watermark = f.high_watermark;
  last_stable_offset = f.last_stable_offset;
  log_start_offset = f.log_start_offset;
  aborted_transactions = None;
  records = Some records;
}

abbrev pub answer_written_v5 : FetchPartitionFrontV5 → List ℕ → List ℕ
answer_written_v5 f records = fetch_partition_reply_v5.written (answer_with_v5 f records)

abbrev pub answer_front_v5 : FetchPartitionFrontV5 → List ℕ
answer_front_v5 f = answer_written_v5 f []
