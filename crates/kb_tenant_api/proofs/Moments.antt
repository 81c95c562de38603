-- What a moment leaves of a tenant, whatever memory and the store refuse.
use Rattle.std.proofs.Common.{◌≡◌, ◌∙◌, ◌≤◌, ◌+◌, inl, inr, ◌||◌, ℕ, Bool, true, List, [], ◌∷◌, map, refl, sym, ap, arith}
use Rattle.std.proofs.lemmas.Bool.Decides.{nat_tests}
use Rattle.std.proofs.lemmas.List.{length-map}
use Rattle.kb_tenant_state.specs.Calls.{all_places, retain, retain_each}
use Rattle.kb_tenant_state.specs.Counts.{counted_by, counted_once}
use Rattle.kb_tenant_state.specs.Parts.{Seen}
use Rattle.kb_tenant_state.specs.Retained.{AllRetained, some_retained, unmarked}
use Rattle.kb_tenant_state.specs.Scene.{Scene, WhereHonest}
use Rattle.kb_tenant_state.specs.World.{World}
use Rattle.kb_tenant_state.specs.declared.topic_partition.TopicPartition.{TopicPartition}
use Rattle.kb_tenant_api.specs.Hosted.{Kept, passed}
use Rattle.kb_tenant_api.specs.Turns.{PassTopics, PassesPartly}

-- each partition had its part
abbrev all_marked : List TopicPartition → List Bool
all_marked places = map (λ (place : TopicPartition). true) places

none_unmarked : (places : List TopicPartition) → unmarked (all_marked places) ≡ 0
unfolding unmarked
none_unmarked [] = refl
none_unmarked (place ∷ places) = omega (arith, none_unmarked places)

retained_marked : (clock : ℕ) (places : List TopicPartition) (w : World)
    → some_retained clock (all_marked places) places w ≡ retain_each clock places w
unfolding some_retained
retained_marked clock [] w = refl
retained_marked clock (place ∷ places) w =
    let first = retain clock w place in
    ap (λ (rest : World × Bool). (rest.0, first.1 || rest.1)) (retained_marked clock places first.0)

-- nothing was refused
pub passes_all : (clock before after : ℕ) (old new : Kept) → before ≤ after → new ≡ passed clock old → PassesPartly clock before after old new
unfolding passed
passes_all clock before after old new le is =
    let places = all_places old.world in
    let none = none_unmarked places in
    record {
      of_groups = 0;
      of_topics = 0;
      groups = inl (refl, ap (λ (k : Kept). k.groups) is);
      topics = inl (
        all_marked places,
        length-map places (λ (place : TopicPartition). true),
        omega (arith, none),
        ap (λ (k : Kept). k.world) is ∙ sym (ap (λ (r : World × Bool). r.0) (retained_marked clock places old.world)),
      );
      counted = omega (arith, le);
    }

once : (n : ℕ) → counted_once n ≡ counted_by 1 n
once n = grind (arith, nat_tests)

-- what retention tells of the topics, and that it was counted
pub retained_told : (a b : Scene Seen) (clock : ℕ) (dropped : Bool) → AllRetained a b clock dropped
    → (refused : ℕ) × WhereHonest a b (PassTopics clock refused a.state.world b.state.world)
    × (b.state.refusals ≡ counted_by refused a.state.refusals)
retained_told a b clock dropped (inl each) = (
  unmarked each.marks + each.left,
  (λ honest agree. inl (each.marks, each.each, omega arith, ap (λ (r : World × Bool). r.0) (each.met honest agree))),
  each.counted,
)
retained_told a b clock dropped (inr none) =
    (1, (λ honest agree. inr (omega arith, none.1.stays honest agree)), none.1.counted ∙ once a.state.refusals)
