-- How the names of a catalog stand to its topics.
use Rattle.std.specs.Prelude.{◌≡◌, ◌<◌, ℕ, List, Some}
use Rattle.std.specs.Ordering.{nat_cmp}
use Rattle.std.specs.List.Sorted.{IsStrictlySortedBy}
use Rattle.std.specs.Map.{keys_of}
use Rattle.std.specs.BTreeMap.{BTreeMap, get_by_text}
use Rattle.std.specs.declared.string.String.{String}
use Rattle.kb_topics.specs.Known.{TopicState, topic_at}

-- each topic's name leads to its instance, and each name to a topic; the instances are numbers that were given out
pub record IsLinked {Y : Type 0} (names : BTreeMap (String Y) ℕ) (ts : List (ℕ × TopicState)) (creates : ℕ) : Type 0 where
  pub ordered : IsStrictlySortedBy nat_cmp (keys_of ts)
  pub below : (i : ℕ) (t : TopicState) → topic_at i ts ≡ Some t → i < creates
  pub forth : (i : ℕ) (t : TopicState) → topic_at i ts ≡ Some t → get_by_text names t.name ≡ Some i
  pub back : (q : List ℕ) (i : ℕ) → get_by_text names q ≡ Some i → (t : TopicState) × (topic_at i ts ≡ Some t) × (t.name ≡ q)
