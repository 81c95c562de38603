-- What a change of a world leaves of the logs that fetches wait for.
use Rattle.std.proofs.Common.{◌≡◌, ℕ, List, [], ◌∷◌, ◌++◌}
use Rattle.std.specs.List.{Contains}
use Rattle.std.proofs.lemmas.List.Elements.{Contains-append_left}
use Rattle.kb_api_data.specs.declared.fetch.FetchRequest.{FetchRequest}
use Rattle.std.specs.Prelude.{None}
use Rattle.kb_tenant_state.specs.Logs.{LogState}
use Rattle.kb_tenant_state.specs.Tied.{IsTied}
use Rattle.kb_tenant_state.specs.World.{World}
use Rattle.kb_tenant_state.specs.declared.topic_partition.TopicPartition.{TopicPartition}
use Rattle.kb_tenant.specs.Fetch.{fetch_answer, places_of}
use Rattle.kb_tenant.specs.Turns.{in_turn}
use Rattle.kb_tenant.specs.Waiting.{AreApart, StillWaits}
use Rattle.kb_tenant.proofs.Asked.{IsHeld, waits_on}

-- A tied world stays tied; and each log stays under its topic's name, unless its place is told.
pub record Moves (before after : List TopicPartition) (w v : World) : Type 0 where
  pub tied : IsTied w → IsTied v
  pub told : (place : TopicPartition) → Contains before place → Contains after place
  pub held : IsTied w → (name : List ℕ) (place : TopicPartition) (log : LogState) → (Contains after place → ⊥) → IsHeld w name place log → IsHeld v name place log

-- nothing changes, and places may be told
pub stays_told : (w : World) (before more : List TopicPartition) → Moves before (before ++ more) w w
stays_told w before more = record {
  tied = λ t. t;
  told = λ place c. Contains-append_left before more place c;
  held = λ t name place log none h. h;
}

pub stays_same : (w : World) (before : List TopicPartition) → Moves before before w w
stays_same w before = record { tied = λ t. t; told = λ place c. c; held = λ t name place log none h. h }

pub moves_then : (a b c : List TopicPartition) (w v u : World) → Moves a b w v → Moves b c v u → Moves a c w u
moves_then a b c w v u p q = record {
  tied = λ t. q.tied (p.tied t);
  told = λ place at. q.told place (p.told place at);
  held = λ t name place log none h. q.held (p.tied t) name place log none (p.held t name place log (λ at. none (q.told place at)) h);
}

-- one entry after another
pub turns_move : {S E A : Type 0} (world : S → World) (places : S → List TopicPartition) (f : S → E → S × A) → ((s : S) (e : E) → Moves (places s) (places (f s e).0) (world s) (world (f s e).0))
    → (s : S) (es : List E) → Moves (places s) (places (in_turn f s es).0) (world s) (world (in_turn f s es).0)
turns_move world places f each s [] = stays_same (world s) (places s)
turns_move {S} {E} {A} world places f each s (e ∷ es) =
    let t : S = (f s e).0 in
    let u : S = (in_turn f t es).0 in
    moves_then (places s) (places t) (places u) (world s) (world t) (world u) (each s e) (turns_move world places f each t es)

-- a fetch that waits for no place that is told waits on
pub waits_through : (after : List TopicPartition) (w v : World) → Moves [] after w v → IsTied w → (clock : ℕ) (r : FetchRequest) (deadline : ℕ) → fetch_answer w clock r deadline ≡ None → AreApart (places_of w r) after → StillWaits w v clock r deadline
waits_through after w v moves tied clock r deadline waits none =
    waits_on w clock r deadline waits v (λ place. (Contains after place → ⊥)) (moves.held tied) none
