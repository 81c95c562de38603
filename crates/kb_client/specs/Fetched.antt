-- What asks for the lines of a partition, and what is found in the reply.
use Rattle.std.specs.Prelude.{◌≡◌, ◌==◌, ◌&&◌, if◌then◌else◌, ℕ, ℤ, pos, negsuc, Bool, true, false, List, [], ◌∷◌, Option, Some, None}
use Rattle.std.specs.Prelude.{Result, Ok, Err, unwrap_or}
use Rattle.std.specs.Int.{w32}
use Rattle.kb_wire.specs.declared.api_key.TheConstants.{FETCH}
use Rattle.kb_wire.specs.declared.fault.WireFault.{WireFault}
use Rattle.kb_wire.specs.declared.fault.WireFault.TheVariants.{Bad}
use Rattle.kb_wire.specs.Codec.{Codec, int32, string, count, whole, ◌⊗◌, ◌>>=◌}
use Rattle.kb_api_group.specs.Frames.{Front, Whole, Partial, TooSmall, TooLarge}
use Rattle.kb_api_data.specs.Layouts.{fetch_request_v5, fetch_partition_reply_v5}
use Rattle.kb_api_data.specs.declared.fetch_v5.FetchRequestV5.{FetchRequestV5}
use Rattle.kb_api_data.specs.declared.fetch_v5.FetchTopicV5.{FetchTopicV5}
use Rattle.kb_api_data.specs.declared.fetch_v5.FetchPartitionReplyV5.{FetchPartitionReplyV5}
use Rattle.kb_client.specs.declared.arrival.Arrival.{Arrival}
use Rattle.kb_client.specs.declared.arrival.Arrival.TheVariants as arrivals
use Rattle.kb_client.specs.Sent.{Target}
use Rattle.kb_client.specs.Requests.{request_text}

-- the topic of a Fetch request, with the partition: at most 1 MiB from an offset on, of one that has no log
abbrev pub fetch_topics : Target → ℤ → List FetchTopicV5
fetch_topics t offset = record {
  topic = t.topic;
  partitions = record {
    partition = t.partition;
    fetch_offset = offset;
    log_start_offset = negsuc 0;
    partition_max_bytes = pos 1048576;
  } ∷ [];
} ∷ []

-- how long a reply may wait for a byte
abbrev pub patience : Bool → ℤ
patience true = pos 500
patience false = pos 0

-- Fetch of one partition, as a client that is no replica
abbrev pub fetch_request : Target → ℤ → Bool → FetchRequestV5
fetch_request t offset follow = record {
  replica_id = negsuc 0;
  max_wait_ms = patience follow;
  min_bytes = pos 1;
  max_bytes = pos 1048576;
  isolation_level = pos 0;
  topics = fetch_topics t offset;
}

abbrev pub fetch_text : ℤ → Target → ℤ → Bool → List ℕ
fetch_text id t offset follow = request_text FETCH (pos 5) id (fetch_request_v5.written (fetch_request t offset follow))

-- Fetch of one partition: an array of one topic, which has an array of one partition
abbrev pub one_fetched : Codec (ℤ × (ℕ × (List ℕ × (ℕ × FetchPartitionReplyV5))))
one_fetched = int32 ⊗ count w32 ⊗ string ⊗ count w32 ⊗ fetch_partition_reply_v5

abbrev pub fetched_partition : List ℕ → Result FetchPartitionReplyV5 WireFault
fetched_partition body = whole one_fetched body >>= λ v. if (v.1.0 == 1) && (v.1.1.1.0 == 1) then Ok v.1.1.1.1 else Err Bad

-- What the bytes are that came since a request: nothing may stand behind the reply.
abbrev pub arrival_of : Front → Arrival
arrival_of (Whole frame []) = arrivals.Reply frame
arrival_of (Whole frame (b ∷ rest)) = arrivals.Fault
arrival_of Partial = arrivals.Part
arrival_of TooSmall = arrivals.Fault
arrival_of TooLarge = arrivals.Fault
