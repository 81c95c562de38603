-- A reply on the wire: its size, its correlation id and its body (Kafka protocol guide, "Protocol Primitives", "Response Header").
use Rattle.std.specs.Prelude.{◌≡◌, ◌⊎◌, ◌<◌, ◌≤◌, ◌+◌, ◌-◌, ◌^◌, ◌++◌, ℕ, ℤ, pos, List, [], ◌∷◌, length, min, nat_lt, Option, Some, None}
use Rattle.std.specs.Prelude.{if◌then◌else◌}
use Rattle.std.specs.Int.{w32}
use Rattle.kb_wire.specs.Codec.{Codec, count, int32}
use Rattle.kb_tenant_state.specs.declared.topic_partition.TopicPartition.{TopicPartition}
use Rattle.kb_tenant.specs.FetchWait.{FetchWait}
use Rattle.kb_tenant.specs.Limits.{is_past}
use Rattle.kb_tenant.specs.declared.answer.Answer.{Answer}
use Rattle.kb_tenant.specs.declared.answer.Answer.TheVariants as answers

-- how many bytes stand behind the size
abbrev pub reply_size : List ℕ → ℕ
reply_size body = 4 + length body

unfoldable pub framed : ℤ → List ℕ → List ℕ
framed id body = int32.written (pos (reply_size body)) ++ (int32.written id ++ body)

-- what a request comes to for the connection that sent it: a reply with that body; a wait of that fetch, until then at most, for one of
-- these partitions; no reply; or the connection is shut
pub data Reaction : Type 0 where
  Replies : (body : List ℕ) → Reaction
  Waits : (deadline : ℕ) (fetch : FetchWait) (keys : List TopicPartition) → Reaction
  Silent : Reaction
  Shuts : Reaction

-- The answer is that reaction's. A reply whose size does not fit an INT32 shuts the connection.
abbrev pub IsAnswer : ℤ → Reaction → Answer → Type 0
IsAnswer id (Replies body) (answers.Reply reply) = (reply_size body < 2 ^ 31) × (reply.items ≡ framed id body)
IsAnswer id (Replies body) (answers.Wait deadline fetch keys) = ⊥
IsAnswer id (Replies body) answers.NoReply = ⊥
IsAnswer id (Replies body) answers.Shut = 2 ^ 31 ≤ reply_size body
IsAnswer id (Waits until fetch places) (answers.Reply reply) = ⊥
IsAnswer id (Waits until fetch places) (answers.Wait deadline kept keys) = (deadline ≡ until) × (kept ≡ fetch) × (keys.items ≡ places)
IsAnswer id (Waits until fetch places) answers.NoReply = ⊥
IsAnswer id (Waits until fetch places) answers.Shut = ⊥
IsAnswer id Silent (answers.Reply reply) = ⊥
IsAnswer id Silent (answers.Wait deadline fetch keys) = ⊥
IsAnswer id Silent answers.NoReply = Unit {0}
IsAnswer id Silent answers.Shut = ⊥
IsAnswer id Shuts (answers.Reply reply) = ⊥
IsAnswer id Shuts (answers.Wait deadline fetch keys) = ⊥
IsAnswer id Shuts answers.NoReply = ⊥
IsAnswer id Shuts answers.Shut = Unit {0}

-- what stands before a body that is still to come: an empty size, and the correlation id
abbrev pub begun : ℤ → List ℕ
begun id = int32.written (pos 0) ++ int32.written id

-- ---- a reply within a limit

-- A reply whose size is past a limit is not sent: the connection is shut.
abbrev pub replies_within : Option ℕ → List ℕ → Reaction
replies_within limit body = if is_past limit (reply_size body) then Shuts else Replies body

-- the largest size of a reply that is sent
abbrev pub most_size : Option ℕ → ℕ
most_size None = 2 ^ 31 - 1
most_size (Some n) = min n (2 ^ 31 - 1)

-- how many bytes there are then, with those of the size
abbrev pub most_bytes : Option ℕ → ℕ
most_bytes limit = 4 + most_size limit

-- the spellings of values, one after another, behind some bytes: for as long as these are at most so many
unfoldable pub written_until : {A : Type 0} → ℕ → (A → List ℕ) → List ℕ → List A → List ℕ
written_until most write out [] = out
written_until most write out (v ∷ vs) = if nat_lt most (length out) then out else written_until most write (out ++ write v) vs

-- the same behind their count
abbrev pub array_until : {A : Type 0} → ℕ → Codec A → List ℕ → List A → List ℕ
array_until most c out vs = written_until most c.written (out ++ (count w32).written (length vs)) vs

-- These bytes are all that there is to write; or both are more than so many.
abbrev pub AreUntil : ℕ → List ℕ → List ℕ → Type 0
AreUntil most all bytes = (bytes ≡ all) ⊎ ((most < length all) × (most < length bytes))
