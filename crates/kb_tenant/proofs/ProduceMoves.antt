-- Produce tells each place where it appends.
use Rattle.std.proofs.Common.{ℕ, ℤ, Bool, true, false, cond, List, [], Option, Some, None, Result, Ok, Err, ◌+◌, ◌^◌}
use Rattle.std.specs.Prelude.{nat_le, pos}
use Rattle.kb_batch.specs.Batch.{count_of}
use Rattle.kb_producers.specs.declared.verdict.Verdict.{Verdict}
use Rattle.kb_producers.specs.declared.verdict.Verdict.TheVariants.{Append, Repeat, Refuse}
use Rattle.kb_topics.specs.Known.{named}
use Rattle.kb_tenant_state.specs.Logs.{LogState, appended}
use Rattle.kb_tenant_state.specs.declared.fault.PartitionFault.TheVariants as partition
use Rattle.kb_api_data.specs.declared.produce.ProducePartition.{ProducePartition}
use Rattle.kb_api_data.specs.declared.produce.ProduceTopic.{ProduceTopic}
use Rattle.kb_api_data.specs.declared.produce.ProduceRequest.{ProduceRequest}
use Rattle.kb_tenant_state.specs.Calls.{appended_to, with_log_at}
use Rattle.kb_tenant_state.specs.World.{World, log_in, place_in}
use Rattle.kb_tenant_state.specs.declared.topic_partition.TopicPartition.{TopicPartition}
use Rattle.kb_tenant.specs.Produce.{Progress, appended_at, appended_unless_full, is_full, batch_in, decided, known_place, offered_unless, produced, progress, refusal_of, entry_served, served_topic, tried, verdict_on}
use Rattle.kb_tenant.proofs.LogMoves.{with_log_moves}
use Rattle.kb_tenant.proofs.Moves.{Moves, stays_same, turns_move}

-- a step of a produce
abbrev Goes : Progress → Progress → Type 0
Goes p q = Moves p.touched q.touched p.world q.world

same : (p : Progress) → Goes p p
same p = stays_same p.world p.touched

append_goes : (p : Progress) (place : TopicPartition) (batch : List ℕ) (o : Option LogState) → Goes p (appended_at p place (appended_to p.world place batch o)).0
append_goes p place batch None = same p
append_goes p place batch (Some l) = by (nat_le (2 ^ 63) (l.end + count_of batch))
  where
    by : (b : Bool) → Goes p (appended_at p place (cond b (p.world, Err partition.Full) (with_log_at p.world place (appended batch l), Ok (pos l.end)))).0
    by true = same p
    by false = with_log_moves p.world p.touched place (appended batch l)

full_goes : (p : Progress) (place : TopicPartition) (batch : List ℕ) → (full : Bool) → Goes p (appended_unless_full full p place batch).0
full_goes p place batch true = same p
full_goes p place batch false = append_goes p place batch (log_in p.world place)

decided_goes : (limit : Option ℕ) (p : Progress) (place : TopicPartition) (batch : List ℕ) (v : Option Verdict) → Goes p (decided limit p place batch v).0
decided_goes limit p place batch None = same p
decided_goes limit p place batch (Some Append) = full_goes p place batch (is_full limit p.world batch)
decided_goes limit p place batch (Some (Repeat base)) = same p
decided_goes limit p place batch (Some (Refuse code)) = same p

offered_goes : (limit : Option ℕ) (p : Progress) (place : TopicPartition) (r : Result (List ℕ) ℤ) → Goes p (offered_unless limit p place r).0
offered_goes limit p place (Ok batch) = decided_goes limit p place batch (verdict_on p.world place batch)
offered_goes limit p place (Err code) = same p

tried_goes : (limit : Option ℕ) (p : Progress) (o : Option TopicPartition) (records : Option (List ℕ)) → Goes p (tried limit p o records).0
tried_goes limit p None records = same p
tried_goes limit p (Some place) records = offered_goes limit p place (batch_in records)

entry_goes : (limit : Option ℕ) (refusal : Option ℤ) (topic : Option ℕ) (p : Progress) (e : ProducePartition) → Goes p (entry_served limit refusal topic p e).0
entry_goes limit (Some code) topic p e = same p
entry_goes limit None topic p e = tried_goes limit p (known_place p.world (place_in topic e.index)) e.records

topic_goes : (limit : Option ℕ) (refusal : Option ℤ) (p : Progress) (t : ProduceTopic) → Goes p (served_topic limit refusal p t).0
topic_goes limit refusal p t =
    let topic = named t.name p.world.known.topics in
    turns_move (λ (s : Progress). s.world) (λ (s : Progress). s.touched) (entry_served limit refusal topic) (entry_goes limit refusal topic) p t.partitions

pub produce_moves : (limit : Option ℕ) (w : World) (r : ProduceRequest) → Moves [] (produced limit w [] r).0.touched w (produced limit w [] r).0.world
produce_moves limit w r =
    let refusal = refusal_of r.transactional_id r.acks in
    turns_move (λ (s : Progress). s.world) (λ (s : Progress). s.touched) (served_topic limit refusal) (topic_goes limit refusal) (progress w []) r.topics
