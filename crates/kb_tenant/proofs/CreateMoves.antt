-- CreateTopics tells no place, and touches no log that is there.
use Rattle.std.proofs.Common.{◌≡◌, ◌∙◌, ℕ, ℤ, Bool, true, false, List, [], length, replicate, Option, Some, None, refl, sym, ap, arith}
use Rattle.std.specs.Prelude.{slice_get, is_some}
use Rattle.std.specs.Option.{option_and_then}
use Rattle.std.specs.Ordering.{nat_cmp}
use Rattle.std.specs.BTreeMap.{insert_entry}
use Rattle.std.specs.Str.{bytes_eq}
use Rattle.std.proofs.lemmas.List.{length-replicate}
use Rattle.kb_batch.specs.Batch.{natural}
use Rattle.kb_wire.specs.declared.error_code.ErrorCode.{ErrorCode}
use Rattle.kb_api_data.specs.declared.create_topics.CreateTopic.{CreateTopic}
use Rattle.kb_api_data.specs.declared.create_topics.CreateTopicsRequest.{CreateTopicsRequest}
use Rattle.kb_topics.specs.Known.{TopicState, named, new_partition, new_topic, with_topic}
use Rattle.kb_topics.specs.Refusals.{create_refusal}
use Rattle.kb_topics.specs.declared.config.TopicConfig.{TopicConfig}
use Rattle.kb_topics.specs.declared.fault.CatalogFault.{CatalogFault}
use Rattle.kb_topics.proofs.Links.{bytes_same}
use Rattle.kb_topics.proofs.Steps.{unnamed}
use Rattle.kb_tenant_state.specs.Logs.{LogState, no_log, with_new_logs}
use Rattle.kb_tenant_state.specs.Calls.{created_unless}
use Rattle.kb_tenant_state.specs.Tied.{IsTied, counted, partition_count}
use Rattle.kb_tenant_state.specs.World.{World}
use Rattle.kb_tenant_state.specs.declared.topic_partition.TopicPartition.{TopicPartition}
use Rattle.kb_tenant.specs.CreateTopics.{created_all, created_topic, made_unless, made_unless_full, made_with, is_too_much, refusal, room_in, stands_twice}
use Rattle.kb_tenant.specs.Settings.{settings_in}
use Rattle.kb_tenant.specs.declared.limits.DataLimits.{DataLimits}
use Rattle.kb_tenant.proofs.Asked.{IsHeld}
use Rattle.kb_tenant.proofs.Entries.{counted_inserted, insert_other}
use Rattle.kb_tenant.proofs.Moves.{Moves, stays_same, turns_move}
use Rattle.kb_topics.proofs.Names.{named_inserted}
use Rattle.kb_tenant.proofs.Tied.{not_next}

-- the world with one more topic
abbrev one_more : World → List ℕ → ℕ → TopicConfig → World
one_more w name count config = record w { known = with_topic w.known (new_topic name count config); logs = with_new_logs w.known.creates count w.logs }

one_more_tied : (w : World) (name : List ℕ) (count : ℕ) (config : TopicConfig) → IsTied w → IsTied (one_more w name count config)
one_more_tied w name count config tied = record {
  next = λ i le. insert_other w.known.topics w.known.creates i (new_topic name count config) (λ same. omega (arith, same, le)) ∙ tied.next i (omega (arith, le));
  logs =
      counted_inserted length w.logs w.known.creates (replicate count no_log)
      ∙ ap (insert_entry nat_cmp (counted length w.logs) w.known.creates) (length-replicate count no_log ∙ sym (length-replicate count new_partition))
      ∙ ap (λ (ns : List (ℕ × ℕ)). insert_entry nat_cmp ns w.known.creates (length (replicate count new_partition))) tied.logs
      ∙ sym (counted_inserted partition_count w.known.topics w.known.creates (new_topic name count config));
}

-- a name that a topic has is not one that none has
other_name : (ts : List (ℕ × TopicState)) (q name : List ℕ) (i : ℕ) → named q ts ≡ Some i → named name ts ≡ None → bytes_eq q name ≡ false
other_name ts q name i there none = by (bytes_eq q name) refl
  where
    by : (b : Bool) → bytes_eq q name ≡ b → bytes_eq q name ≡ false
    by false is = is
    by true is = absurd (let bad : Some i ≡ None = sym there ∙ ap (λ x. named x ts) (bytes_same q name is) ∙ none in cc)

one_more_held : (w : World) (name : List ℕ) (count : ℕ) (config : TopicConfig) → named name w.known.topics ≡ None → IsTied w
    → (q : List ℕ) (place : TopicPartition) (log : LogState) → IsHeld w q place log → IsHeld (one_more w name count config) q place log
one_more_held w name count config new tied q place log h = record {
  topic =
      named_inserted w.known.topics w.known.creates (new_topic name count config) q (tied.next w.known.creates (omega arith)) (other_name w.known.topics q name place.instance h.topic new)
      ∙ h.topic;
  there =
      ap (λ (o : Option (List LogState)). option_and_then (λ (t : List LogState). slice_get t place.number) o)
      (insert_other w.logs w.known.creates place.instance (replicate count no_log) (λ same. not_next w place.instance place.number log tied h.there (omega (arith, same))))
      ∙ h.there;
}

one_more_moves : (w : World) (name : List ℕ) (count : ℕ) (config : TopicConfig) → named name w.known.topics ≡ None → Moves [] [] w (one_more w name count config)
one_more_moves w name count config new = record {
  tied = one_more_tied w name count config;
  told = λ place at. at;
  held = λ tied q place log none h. one_more_held w name count config new tied q place log h;
}

-- ---- the entries of a request

create_moves_by : (w : World) (name : List ℕ) (partitions : ℤ) (config : TopicConfig) (o : Option CatalogFault) → create_refusal w.known name partitions config ≡ o → Moves [] [] w (created_unless w name partitions config o).0
create_moves_by w name partitions config (Some f) e = stays_same w []
create_moves_by w name partitions config None e = one_more_moves w name (natural partitions) config (unnamed w.known name partitions config e)

full_moves : (w : World) (t : CreateTopic) (config : TopicConfig) (full : Bool) → Moves [] [] w (made_unless_full full w t config).0
full_moves w t config true = stays_same w []
full_moves w t config false = create_moves_by w t.name t.num_partitions config (create_refusal w.known t.name t.num_partitions config) refl

settled_moves : (limits : DataLimits) (w : World) (t : CreateTopic) (o : Option TopicConfig) → Moves [] [] w (made_with limits w t o).0
settled_moves limits w t None = stays_same w []
settled_moves limits w t (Some config) = full_moves w t config (is_too_much limits (room_in limits w.known) t.num_partitions)

made_moves : (limits : DataLimits) (w : World) (t : CreateTopic) (o : Option ErrorCode) → Moves [] [] w (made_unless limits w t o).0
made_moves limits w t (Some e) = stays_same w []
made_moves limits w t None = settled_moves limits w t (settings_in t.configs)

pub create_moves : (limits : DataLimits) (w : World) (r : CreateTopicsRequest) → Moves [] [] w (created_all limits w r).0
create_moves limits w r =
    turns_move (λ (s : World). s) (λ (s : World). []) (created_topic limits r.topics)
    (λ s t. made_moves limits s t (refusal (stands_twice t.name r.topics) (is_some (named t.name s.known.topics)) t)) w r.topics
