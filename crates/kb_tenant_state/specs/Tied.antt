-- How the logs of a world stand to its topics.
use Rattle.std.specs.Prelude.{ℕ, ◌≤◌, ◌≡◌, List, None, length, map}
use Rattle.kb_topics.specs.Known.{TopicState, topic_at}
use Rattle.kb_tenant_state.specs.World.{World}

-- how many items stand under each instance
abbrev pub counted : {A : Type 0} → (A → ℕ) → List (ℕ × A) → List (ℕ × ℕ)
counted size es = map (λ e. (e.0, size e.1)) es

abbrev pub partition_count : TopicState → ℕ
partition_count t = length t.partitions

-- The next topic's instance, and those above it, are no topic's; and each topic has a log for each of its partitions, under
-- its instance, and there are no other logs.
pub record IsTied (w : World) : Type 0 where
  pub next : (i : ℕ) → w.known.creates ≤ i → topic_at i w.known.topics ≡ None
  pub logs : counted length w.logs ≡ counted partition_count w.known.topics
