-- What a broker answers to a consumer's fetch, told by what the other side of a consumer answers.
use Rattle.std.specs.Prelude.{◌≡◌, ◌<◌, ◌^◌, ℕ, ℤ, pos, Bool, List, Option, Some, option_map}
use Rattle.std.specs.Option.{option_and_then}
use Rattle.kb_log.specs.Log.{IsRun, StartsIn, first_base}
use Rattle.kb_topics.specs.Known.{named}
use Rattle.kb_tenant_state.specs.Logs.{LogState}
use Rattle.kb_tenant_state.specs.World.{World, log_in, place_in}
use Rattle.kb_tenant_state.specs.declared.topic_partition.TopicPartition.{TopicPartition}
use Rattle.kb_api_data.specs.Layouts.{fetch_request_v5}
use Rattle.kb_client.specs.Sent.{Target}
use Rattle.kb_client.specs.Fetched.{fetch_request}
use Rattle.kb_client_spec.specs.Partition.{Log}
use Rattle.kb_client_spec.specs.Fetching.{Fetch, partition_answer, reply_body}

-- a log, as the other side of a consumer has it
abbrev pub served_log : LogState → Log
served_log l = record { start = pos l.start; end = pos l.end; batches = l.batches }

-- the partition of that topic and index in a world, if it is there
abbrev pub partition_in : World → List ℕ → ℤ → Option Log
partition_in w topic index = option_map served_log (option_and_then (log_in w) (place_in (named topic w.known.topics) index))

-- the batches of a log stand one behind the other up to its end, which is an INT64, and its start is in the first
pub record IsWhole (l : LogState) : Type 0 where
  pub run : IsRun (first_base l.end l.batches) l.batches l.end
  pub starts : StartsIn l.start l.end l.batches
  pub small : l.end < 2 ^ 63

-- so does each log of a world
abbrev pub HasWholeLogs : World → Type 0
HasWholeLogs w = (place : TopicPartition) (l : LogState) → log_in w place ≡ Some l → IsWhole l

-- what a consumer of a partition asks from an offset on
abbrev pub fetch_by : Target → ℤ → Fetch
fetch_by target offset = record { topic = target.topic; index = target.partition; offset = offset }

-- the body of its request
abbrev pub body_by : Target → ℤ → Bool → List ℕ
body_by target offset follow = fetch_request_v5.written (fetch_request target offset follow)

-- this is the body of a reply of the other side, of the partition as it is in a world, with some number of batches
abbrev pub IsAnswered : World → Fetch → List ℕ → Type 0
IsAnswered w f body = (n : ℕ) × (body ≡ reply_body f (partition_answer n f (partition_in w f.topic f.index)))
