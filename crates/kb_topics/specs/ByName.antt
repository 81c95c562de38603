-- The topics of a catalog in byte order of their names.
use Rattle.std.specs.Prelude.{ℕ, pos, List, [], map, is_some, true, ◌≡◌}
use Rattle.std.specs.Option.{unwrap_or}
use Rattle.std.specs.List.{AllByRecursion}
use Rattle.std.specs.Ordering.{nat_cmp}
use Rattle.std.specs.Cmp.Lexicographic.{slice_cmp}
use Rattle.std.specs.FinMap.{from_entries, values}
use Rattle.kb_topics.specs.Known.{TopicState, topic_at}

-- each topic with its instance, as a map by names in byte order holds them
abbrev pub by_name : List (ℕ × TopicState) → List (ℕ × TopicState)
by_name ts = values (from_entries {R = slice_cmp nat_cmp} (map (λ e. (e.1.name, e)) ts))

-- ---- what is still to come of them

-- a topic without a name, which no catalog has
abbrev pub no_topic : TopicState
no_topic = record { name = []; config = record { retention_ms = pos 0; retention_bytes = pos 0 }; partitions = [] }

-- the topic of an instance that is there
abbrev pub topic_of : List (ℕ × TopicState) → ℕ → TopicState
topic_of ts i = unwrap_or (topic_at i ts) no_topic

-- the topics to which names lead
abbrev pub topics_under : {K : Type 0} → List (K × ℕ) → List (ℕ × TopicState) → List (ℕ × TopicState)
topics_under names ts = map (λ e. (e.1, topic_of ts e.1)) names

-- each name leads to a topic
abbrev pub LeadSomewhere : {K : Type 0} → List (K × ℕ) → List (ℕ × TopicState) → Type 0
LeadSomewhere names ts = AllByRecursion (λ e. is_some (topic_at e.1 ts) ≡ true) names
