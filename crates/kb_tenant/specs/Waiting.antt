-- When a fetch that waits need not be looked at again: what its reply depends on stays.
use Rattle.std.specs.Prelude.{ℕ, ◌≡◌, List, None}
use Rattle.std.specs.List.{Contains}
use Rattle.kb_api_data.specs.declared.fetch.FetchRequest.{FetchRequest}
use Rattle.kb_topics.specs.WellFormed.{AreNamedApart}
use Rattle.kb_tenant.specs.Fetch.{fetch_answer, places_of}
use Rattle.kb_tenant_state.specs.World.{World}
use Rattle.kb_tenant_state.specs.declared.topic_partition.TopicPartition.{TopicPartition}

-- no place is in both
abbrev pub AreApart : List TopicPartition → List TopicPartition → Type 0
AreApart xs ys = (place : TopicPartition) → Contains xs place → Contains ys place → ⊥

-- In the other world a fetch still has no answer, and waits for the same places.
abbrev pub StillWaits : World → World → ℕ → FetchRequest → ℕ → Type 0
StillWaits w v clock r deadline = (fetch_answer v clock r deadline ≡ None) × (places_of v r ≡ places_of w r)

-- No two topics of a world have one name.
abbrev pub HasOwnNames : World → Type 0
HasOwnNames w = AreNamedApart w.known.topics
