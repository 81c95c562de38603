-- What each catalog is that the commands of a meta log come to.
use Rattle.std.specs.Prelude.{◌≡◌, ◌≤◌, ◌<◌, ◌≤ℤ◌, ◌^◌, ℕ, pos, true, List, [], ◌∷◌, length, None}
use Rattle.std.specs.List.{AllByRecursion}
use Rattle.std.specs.List.Sorted.{IsStrictlySortedBy}
use Rattle.std.specs.Map.{keys_of}
use Rattle.std.specs.Ordering.{nat_cmp}
use Rattle.std.specs.Cmp.Lexicographic.{slice_cmp}
use Rattle.kb_topics.specs.Name.{is_legal}
use Rattle.kb_topics.specs.Known.{CommittedOffset, PartitionState, TopicState, Known, named, is_limit}

-- commits of groups whose names are a command's, with at most 4,096 bytes beside the offset
abbrev pub AreCommits : List (List ℕ × CommittedOffset) → Type 0
AreCommits cs = AllByRecursion (λ e. (length e.0 < 2 ^ 15) × (length e.1.metadata ≤ 4096)) cs

-- the start is not negative, and the commits stand in strict byte order of groups
pub record IsPartition (p : PartitionState) : Type 0 where
  pub start : pos 0 ≤ℤ p.start
  pub ordered : IsStrictlySortedBy (slice_cmp nat_cmp) (keys_of p.commits)
  pub commits : AreCommits p.commits

-- a legal name, limits from -1 on, and 1 to 64 partitions
pub record IsTopic (t : TopicState) : Type 0 where
  pub name : is_legal t.name ≡ true
  pub retention_ms : is_limit t.config.retention_ms ≡ true
  pub retention_bytes : is_limit t.config.retention_bytes ≡ true
  pub some : 1 ≤ length t.partitions
  pub few : length t.partitions ≤ 64
  pub partitions : AllByRecursion IsPartition t.partitions

-- no two of these topics have one name
abbrev pub AreNamedApart : List (ℕ × TopicState) → Type 0
AreNamedApart [] = Unit {0}
AreNamedApart (e ∷ ts) = (named e.1.name ts ≡ None) × AreNamedApart ts

-- each of these topics stands under a number below that one, and is a topic
abbrev pub AreTopics : ℕ → List (ℕ × TopicState) → Type 0
AreTopics creates ts = AllByRecursion (λ e. (e.0 < creates) × IsTopic e.1) ts

-- At most 1,000 topics with different names, in order of instances that were given out, and numbers that are INT64s.
pub record IsWellFormed (k : Known) : Type 0 where
  pub few : length k.topics ≤ 1000
  pub ordered : IsStrictlySortedBy nat_cmp (keys_of k.topics)
  pub topics : AreTopics k.creates k.topics
  pub apart : AreNamedApart k.topics
  pub creates : k.creates < 2 ^ 63
  pub issues : k.issues < 2 ^ 63
