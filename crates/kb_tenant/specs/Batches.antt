-- What a fetch gives: whole batches of the partition's list, from the one that holds the asked offset (Kafka protocol guide, "The
-- Messages: Fetch").
use Rattle.std.specs.Prelude.{ℕ, ℤ, pos, ◌≡◌, ◌≤ℤ◌, ◌<ℤ◌, ◌≤◌, ◌<◌, ◌^◌, ◌++◌, Bool, true, false, List, [], ◌∷◌, length, Option, Some, All}
use Rattle.std.specs.Prelude.{⊤}
use Rattle.std.specs.List.{concat}
use Rattle.kb_wire.specs.Codec.{int16}
use Rattle.kb_log.specs.Log.{base_of, next_of}
use Rattle.kb_api_data.specs.Layouts.{fetch_reply, fetch_reply_v5}
use Rattle.kb_api_data.specs.declared.fetch.FetchPartition.{FetchPartition}
use Rattle.kb_api_data.specs.declared.fetch.FetchTopic.{FetchTopic}
use Rattle.kb_api_data.specs.declared.fetch.FetchRequest.{FetchRequest}
use Rattle.kb_api_data.specs.declared.fetch_v5.FetchPartitionReplyV5.{FetchPartitionReplyV5}
use Rattle.kb_api_data.specs.declared.fetch_v5.FetchTopicReplyV5.{FetchTopicReplyV5}
use Rattle.kb_api_data.specs.declared.fetch_v5.FetchReplyV5.{FetchReplyV5}
use Rattle.kb_topics.specs.Known.{named}
use Rattle.kb_tenant_state.specs.Logs.{LogState}
use Rattle.kb_tenant_state.specs.World.{World, log_in, place_in}
use Rattle.kb_tenant_state.specs.declared.topic_partition.TopicPartition.{TopicPartition}
use Rattle.kb_tenant.specs.Fetch.{has_session, has_starts, without_starts}

-- these batches stand in a list, one after the other
pub record AreIn (all batches : List (List ℕ)) : Type 0 where
  pub before : List (List ℕ)
  pub after : List (List ℕ)
  pub split : all ≡ before ++ (batches ++ after)

-- the first of them, if there is one, has a record of the offset
abbrev pub BeginAt : ℤ → List (List ℕ) → Type 0
BeginAt offset [] = ⊤
BeginAt offset (b ∷ bs) = (pos (base_of b) ≤ℤ offset) × (offset <ℤ pos (next_of b))

-- the records of a partition of the topic of an instance: such batches of its log, as a whole; and where the log starts
pub record GivesBatches (w : World) (topic : Option ℕ) (asked : FetchPartition) (start : ℤ) (records : Option (List ℕ)) : Type 0 where
  pub place : TopicPartition
  pub log : LogState
  pub batches : List (List ℕ)
  pub there : place_in topic asked.partition ≡ Some place
  pub kept : log_in w place ≡ Some log
  pub starts : start ≡ pos log.start
  pub consecutive : AreIn log.batches batches
  pub begins : BeginAt asked.fetch_offset batches
  pub whole : records ≡ Some (concat batches)

-- each entry has one answer, in order
abbrev pub EachAnswered : {E A : Type 0} → (E → A → Type 0) → List E → List A → Type 0
EachAnswered P [] [] = ⊤
EachAnswered P [] (a ∷ rest) = ⊥
EachAnswered P (e ∷ es) [] = ⊥
EachAnswered P (e ∷ es) (a ∷ rest) = P e a × EachAnswered P es rest

abbrev pub IsPartitionAnswered : World → Option ℕ → FetchPartition → FetchPartitionReplyV5 → Type 0
IsPartitionAnswered w topic asked p =
    (p.partition ≡ asked.partition) × (p.error_code ≡ pos 0 → GivesBatches w topic asked p.log_start_offset p.records)

abbrev pub IsTopicAnswered : World → FetchTopic → FetchTopicReplyV5 → Type 0
IsTopicAnswered w asked t =
    (t.topic ≡ asked.topic) × EachAnswered (IsPartitionAnswered w (named asked.topic w.known.topics)) asked.partitions t.partitions

-- These bytes spell a reply, with the starts of the logs or without them, as a version of the API does.
abbrev pub Spells : Bool → List ℕ → FetchReplyV5 → Type 0
Spells true bytes reply = fetch_reply_v5.Spells bytes reply
Spells false bytes reply = fetch_reply.Spells bytes (without_starts reply)

-- The same behind the INT16 of an error code, where a version has it.
abbrev pub SpellsBehind : (is_behind starts : Bool) → List ℕ → FetchReplyV5 → Type 0
SpellsBehind true starts bytes reply =
    (code : ℤ) × ((rest : List ℕ) × ((bytes ≡ int16.written code ++ rest) × Spells starts rest reply))
SpellsBehind false starts bytes reply = Spells starts bytes reply

-- These bytes spell, in a version of the API, a reply in which each partition without an error gives whole batches of its log. No
-- bytes spell two replies of one version.
pub record HoldsBatches (version : ℤ) (w : World) (r : FetchRequest) (bytes : List ℕ) : Type 0 where
  pub reply : FetchReplyV5
  pub spelled : SpellsBehind (has_session version) (has_starts version) bytes reply
  pub answered : EachAnswered (IsTopicAnswered w) r.topics reply.topics

-- ---- the logs that a reply can tell

-- a log whose bounds and base offsets are INT64s, with batches of the size that is accepted
pub record IsSmall (l : LogState) : Type 0 where
  pub start : l.start < 2 ^ 63
  pub end : l.end < 2 ^ 63
  pub bases : All (λ b. base_of b < 2 ^ 63) l.batches
  pub batches : All (λ b. length b ≤ 1048588) l.batches

-- Each log of a world is such a log.
abbrev pub HasSmallLogs : World → Type 0
HasSmallLogs w = All (λ e. All IsSmall e.1) w.logs
