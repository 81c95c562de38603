-- How the logs of a tied world stand to its topics.
use Rattle.std.proofs.Common.{◌≡◌, ◌∙◌, ◌≤◌, ◌<◌, ℕ, List, length, Option, Some, None, refl, sym, ap, arith}
use Rattle.std.specs.Prelude.{option_map, slice_get}
use Rattle.std.specs.Option.{option_and_then}
use Rattle.std.specs.Ordering.{nat_cmp}
use Rattle.std.specs.Map.{lookup}
use Rattle.std.specs.BTreeMap.{is_at}
use Rattle.std.proofs.lemmas.Map.Made.{lookup-map_values}
use Rattle.std.proofs.lemmas.Option.{slice_get_within}
use Rattle.kb_topics.specs.Known.{TopicState, topic_at}
use Rattle.kb_tenant_state.specs.Logs.{LogState, log_at}
use Rattle.kb_tenant_state.specs.Tied.{IsTied, partition_count}
use Rattle.kb_tenant_state.specs.World.{World, new_world}

-- the topic of a log, which has a partition of its number
pub record Owner (w : World) (i p : ℕ) : Type 0 where
  pub topic : TopicState
  pub there : topic_at i w.known.topics ≡ Some topic
  pub within : p < length topic.partitions

-- a log that is found stands among those of its instance
among : (ls : Option (List LogState)) (p : ℕ) (log : LogState) → option_and_then (λ (t : List LogState). slice_get t p) ls ≡ Some log → (all : List LogState) × (ls ≡ Some all) × (p < length all)
among None p log e = absurd cc
among (Some all) p log e = (all, refl, slice_get_within all p log e)

owner_of : (w : World) (i p n : ℕ) (o : Option TopicState) → topic_at i w.known.topics ≡ o → option_map partition_count o ≡ Some n → p < n → Owner w i p
owner_of w i p n None at e lt = absurd cc
owner_of w i p n (Some t) at e lt =
    let same : length t.partitions ≡ n = cc in
    record { topic = t; there = at; within = omega (arith, same, lt) }

-- each log is that of a partition of a topic
pub owner : (w : World) (i p : ℕ) (log : LogState) → IsTied w → log_at i p w.logs ≡ Some log → Owner w i p
owner w i p log tied at =
    let test = is_at (nat_cmp i) in
    let found = among (lookup test w.logs) p log at in
    let many : option_map partition_count (topic_at i w.known.topics) ≡ Some (length found.0) =
    sym (lookup-map_values partition_count test w.known.topics) ∙ sym (ap (lookup test) tied.logs) ∙ lookup-map_values length test w.logs ∙ ap (option_map length) found.1 in
    owner_of w i p (length found.0) (topic_at i w.known.topics) refl many found.2

-- no log has an instance that is still to come
pub not_next : (w : World) (i p : ℕ) (log : LogState) → IsTied w → log_at i p w.logs ≡ Some log → w.known.creates ≤ i → ⊥
not_next w i p log tied at le =
    let own = owner w i p log tied at in
    let none = tied.next i le in
    let bad : Some own.topic ≡ None = sym own.there ∙ none in cc

pub new_tied : IsTied new_world
new_tied = record { next = λ i le. refl; logs = refl }
