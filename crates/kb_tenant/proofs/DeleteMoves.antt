-- DeleteTopics tells the place of each log that goes.
use Rattle.std.proofs.Common.{◌≡◌, ◌∙◌, ◌<◌, ℕ, List, [], ◌++◌, length, Option, Some, sym, subst, ap, arith}
use Rattle.std.specs.Prelude.{None, slice_get}
use Rattle.std.specs.Option.{option_and_then}
use Rattle.std.specs.Ordering.{nat_cmp}
use Rattle.std.specs.List.{Contains}
use Rattle.std.specs.Map.{remove_entry}
use Rattle.std.specs.BTreeMap.{is_at}
use Rattle.std.proofs.lemmas.List.Elements.{Contains-append_left, Contains-append_right}
use Rattle.std.proofs.lemmas.List.FromFn.{get_or-map-range_with_len, length-map-range_with_len}
use Rattle.kb_api_data.specs.declared.delete_topics.DeleteTopicsRequest.{DeleteTopicsRequest}
use Rattle.kb_topics.specs.Known.{named, without_topic}
use Rattle.kb_tenant_state.specs.Logs.{LogState, without_logs}
use Rattle.kb_tenant_state.specs.Calls.{deleted_at}
use Rattle.kb_tenant_state.specs.Tied.{IsTied, partition_count}
use Rattle.kb_tenant_state.specs.World.{World}
use Rattle.kb_tenant_state.specs.declared.topic_partition.TopicPartition.{TopicPartition}
use Rattle.kb_tenant.specs.DeleteTopics.{deleted_all, deleted_topic, place_at, places, places_at, places_in}
use Rattle.kb_tenant.proofs.Asked.{IsHeld}
use Rattle.kb_tenant.proofs.Entries.{counted_removed, none_removed, remove_other}
use Rattle.kb_tenant.proofs.Moves.{Moves, stays_told, turns_move}
use Rattle.kb_topics.proofs.Names.{named_removed}
use Rattle.kb_tenant.proofs.Tied.{owner}

-- the world without a topic
abbrev without : World → ℕ → World
without w i = record w { known = without_topic w.known i; logs = without_logs i w.logs }

without_tied : (w : World) (i : ℕ) → IsTied w → IsTied (without w i)
without_tied w i tied = record {
  next = λ j le. none_removed (is_at (nat_cmp j)) (is_at (nat_cmp i)) w.known.topics (tied.next j le);
  logs =
      counted_removed length (is_at (nat_cmp i)) w.logs ∙ ap (remove_entry (is_at (nat_cmp i))) tied.logs
      ∙ sym (counted_removed partition_count (is_at (nat_cmp i)) w.known.topics);
}

-- each of the first partitions of an instance is among them
among_places : (place : TopicPartition) (count : ℕ) → place.number < count → Contains (places place.instance count) place
among_places place count lt =
    let many = length-map-range_with_len (place_at place.instance) 0 count in
    (place.number, omega (arith, many, lt), get_or-map-range_with_len (place_at place.instance) 0 count place.number place.number place lt (omega arith))

-- the place of a topic's log is among those that its deletion tells
log_told : (w : World) (name : List ℕ) (place : TopicPartition) (log : LogState) → IsTied w → IsHeld w name place log → Contains (places_at w (Some place.instance)) place
log_told w name place log tied h =
    let own = owner w place.instance place.number log tied h.there in
    subst (λ o. Contains (places_in place.instance o) place) (sym own.there) (among_places place (length own.topic.partitions) own.within)

without_held : (w : World) (i : ℕ) (before : List TopicPartition) (tied : IsTied w) (name : List ℕ) (place : TopicPartition) (log : LogState)
    → (Contains (before ++ places_at w (Some i)) place → ⊥) → IsHeld w name place log → IsHeld (without w i) name place log
without_held w i before tied name place log none h =
    let gone = places_at w (Some i) in
    let other : place.instance ≡ i → ⊥ = λ same.
    none (Contains-append_right before gone place (subst (λ j. Contains (places_at w (Some j)) place) same (log_told w name place log tied h))) in
    record {
      topic = named_removed w.known.topics i place.instance name h.topic other;
      there =
          ap (λ (o : Option (List LogState)). option_and_then (λ (t : List LogState). slice_get t place.number) o) (remove_other w.logs i place.instance other)
          ∙ h.there;
    }

delete_moves_by : (w : World) (before : List TopicPartition) (o : Option ℕ) → Moves before (before ++ places_at w o) w (deleted_at w o).0
delete_moves_by w before None = stays_told w before []
delete_moves_by w before (Some i) = record {
  tied = without_tied w i;
  told = λ place at. Contains-append_left before (places_at w (Some i)) place at;
  held = λ tied name place log none h. without_held w i before tied name place log none h;
}

pub delete_moves : (w : World) (r : DeleteTopicsRequest) → Moves [] (deleted_all (w, []) r).0.1 w (deleted_all (w, []) r).0.0
delete_moves w r =
    turns_move (λ (s : World × List TopicPartition). s.0) (λ (s : World × List TopicPartition). s.1) deleted_topic
    (λ s name. delete_moves_by s.0 s.1 (named name s.0.known.topics)) (w, []) r.names
