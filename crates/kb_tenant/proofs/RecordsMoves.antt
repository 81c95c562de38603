-- DeleteRecords tells the place of each log that it changes, and changes no name.
use Rattle.std.proofs.Common.{◌≡◌, ◌∙◌, ℕ, ℤ, Bool, true, false, cond, List, [], ◌∷◌, ◌++◌, Option, Some, None, refl}
use Rattle.std.specs.Prelude.{pos, int_lt, ◌||◌, Result, Ok, Err}
use Rattle.std.proofs.lemmas.List.Elements.{Contains-append_left, Contains-append_right}
use Rattle.kb_api_data.specs.declared.delete_records.DeleteRecordsPartition.{DeleteRecordsPartition}
use Rattle.kb_api_data.specs.declared.delete_records.DeleteRecordsRequest.{DeleteRecordsRequest}
use Rattle.kb_api_data.specs.declared.delete_records.DeleteRecordsTopic.{DeleteRecordsTopic}
use Rattle.kb_topics.specs.Commands.{start_command}
use Rattle.kb_topics.specs.Known.{Known, named, step}
use Rattle.kb_tenant_state.specs.Logs.{LogState}
use Rattle.kb_tenant_state.specs.declared.fault.PartitionFault.{PartitionFault}
use Rattle.kb_tenant_state.specs.declared.fault.PartitionFault.TheVariants as partition
use Rattle.kb_tenant_state.specs.Calls.{delete_records, deleted_from, deleted_to, start_asked, start_moved}
use Rattle.kb_tenant_state.specs.World.{World, log_in, place_in}
use Rattle.kb_tenant_state.specs.declared.topic_partition.TopicPartition.{TopicPartition}
use Rattle.kb_tenant.specs.DeleteRecords.{deleted, deleted_all, deleted_in, deleted_topic, told}
use Rattle.kb_tenant.specs.Turns.{in_turn}
use Rattle.kb_tenant.proofs.Moves.{Moves, stays_same, stays_told, turns_move}
use Rattle.kb_tenant.proofs.RetainMoves.{IsAlike, alike_same, moved_moves, step_alike}

-- ---- one partition

-- what a deletion of records may come to: nothing, an answer without a change, or a moved start
pub record Cases (P : World × Result ℤ PartitionFault → Type 0) (w : World) (place : TopicPartition) : Type 0 where
  pub refused : (f : PartitionFault) → P (w, Err f)
  pub stays : (start : ℤ) → P (w, Ok start)
  pub moves : (start : ℤ) (k : Known) (l : LogState) → log_in w place ≡ Some l → int_lt (pos l.end) start ≡ false → step w.known (start_command (pos place.instance) (pos place.number) start) ≡ Some k → P (deleted_to w place start (Some k))

module _ (P : World × Result ℤ PartitionFault → Type 0) (w : World) (place : TopicPartition) (c : Cases P w place) where
  by_step : (start : ℤ) (l : LogState) → log_in w place ≡ Some l → int_lt (pos l.end) start ≡ false
      → (o : Option Known) → step w.known (start_command (pos place.instance) (pos place.number) start) ≡ o → P (deleted_to w place start o)
  by_step start l at within None e = c.refused partition.Unknown
  by_step start l at within (Some k) e = c.moves start k l at within e

  by_range : (start : ℤ) (l : LogState) → log_in w place ≡ Some l → (below behind above : Bool) → int_lt (pos l.end) start ≡ behind
      → P (cond (below || behind) (w, Err partition.Range) (cond above (start_moved w place start) (w, Ok (pos l.start))))
  by_range start l at true behind above e = c.refused partition.Range
  by_range start l at false true above e = c.refused partition.Range
  by_range start l at false false true e = by_step start l at e (step w.known (start_command (pos place.instance) (pos place.number) start)) refl
  by_range start l at false false false e = c.stays (pos l.start)

  by_log : (offset : ℤ) (o : Option LogState) → log_in w place ≡ o → P (deleted_from w place offset o)
  by_log offset None at = c.refused partition.Unknown
  by_log offset (Some l) at =
      let start = start_asked offset (pos l.end) in
      by_range start l at (int_lt start (pos 0)) (int_lt (pos l.end) start) (int_lt (pos l.start) start) refl

  pub by_deletion : (offset : ℤ) → P (delete_records w place offset)
  by_deletion offset = by_log offset (log_in w place) refl

-- what tells a place more, or one that was told before
wider : (w v : World) (more before : List TopicPartition) → Moves [] more w v → Moves before (before ++ more) w v
wider w v more before m = record {
  tied = m.tied;
  told = λ place at. Contains-append_left before more place at;
  held = λ t name place log none h. m.held t name place log (λ at. none (Contains-append_right before more place at)) h;
}

-- the place is told where the start moved
pub partition_moves : (w : World) (place : TopicPartition) (offset : ℤ) (before : List TopicPartition)
    → Moves before (told before place (delete_records w place offset).1) w (delete_records w place offset).0
partition_moves w place offset before = by_deletion (λ (r : World × Result ℤ PartitionFault). Moves before (told before place r.1) w r.0) w place (record {
  refused = λ f. stays_same w before;
  stays = λ start. stays_told w before (place ∷ []);
  moves = λ start k l at within e. wider w (deleted_to w place start (Some k)).0 (place ∷ []) before (moved_moves w place start k (step_alike w.known k place.instance place.number start e));
}) offset

pub partition_alike : (w : World) (place : TopicPartition) (offset : ℤ) → IsAlike w.known (delete_records w place offset).0.known
partition_alike w place offset = by_deletion (λ (r : World × Result ℤ PartitionFault). IsAlike w.known r.0.known) w place (record {
  refused = λ f. alike_same w.known;
  stays = λ start. alike_same w.known;
  moves = λ start k l at within e. step_alike w.known k place.instance place.number start e;
}) offset

-- ---- all entries

entry_moves : (topic : Option ℕ) (s : World × List TopicPartition) (e : DeleteRecordsPartition) → Moves s.1 (deleted topic s e).0.1 s.0 (deleted topic s e).0.0
entry_moves topic s e = at (place_in topic e.partition)
  where
    at : (o : Option TopicPartition) → Moves s.1 (deleted_in s o e.offset).0.1 s.0 (deleted_in s o e.offset).0.0
    at None = stays_same s.0 s.1
    at (Some place) = partition_moves s.0 place e.offset s.1

topic_moves : (s : World × List TopicPartition) (t : DeleteRecordsTopic) → Moves s.1 (deleted_topic s t).0.1 s.0 (deleted_topic s t).0.0
topic_moves s t =
    let topic = named t.name s.0.known.topics in
    turns_move (λ (u : World × List TopicPartition). u.0) (λ (u : World × List TopicPartition). u.1) (deleted topic) (entry_moves topic) s t.partitions

pub records_moves : (w : World) (q : DeleteRecordsRequest) → Moves [] (deleted_all (w, []) q).0.1 w (deleted_all (w, []) q).0.0
records_moves w q = turns_move (λ (u : World × List TopicPartition). u.0) (λ (u : World × List TopicPartition). u.1) deleted_topic topic_moves (w, []) q.topics

-- ---- what is known

alike_then : (k l m : Known) → IsAlike k l → IsAlike l m → IsAlike k m
alike_then k l m p q = record {
  creates = q.creates ∙ p.creates;
  none = λ i none. q.none i (p.none i none);
  counts = q.counts ∙ p.counts;
  names = λ name. q.names name ∙ p.names name;
  apart = λ own. q.apart (p.apart own);
}

turns_alike : {E A : Type 0} (f : World × List TopicPartition → E → (World × List TopicPartition) × A) → ((s : World × List TopicPartition) (e : E) → IsAlike s.0.known (f s e).0.0.known)
    → (s : World × List TopicPartition) (es : List E) → IsAlike s.0.known (in_turn f s es).0.0.known
turns_alike f each s [] = alike_same s.0.known
turns_alike f each s (e ∷ es) = alike_then s.0.known (f s e).0.0.known (in_turn f (f s e).0 es).0.0.known (each s e) (turns_alike f each (f s e).0 es)

entry_alike : (topic : Option ℕ) (s : World × List TopicPartition) (e : DeleteRecordsPartition) → IsAlike s.0.known (deleted topic s e).0.0.known
entry_alike topic s e = at (place_in topic e.partition)
  where
    at : (o : Option TopicPartition) → IsAlike s.0.known (deleted_in s o e.offset).0.0.known
    at None = alike_same s.0.known
    at (Some place) = partition_alike s.0 place e.offset

-- It is as before, but for the states of partitions.
pub records_alike : (w : World) (q : DeleteRecordsRequest) → IsAlike w.known (deleted_all (w, []) q).0.0.known
records_alike w q = turns_alike deleted_topic (λ s t. turns_alike (deleted (named t.name s.0.known.topics)) (entry_alike (named t.name s.0.known.topics)) s t.partitions) (w, []) q.topics
