-- What a catalog knows after more commands.
use Rattle.std.specs.Prelude.{◌≡◌, ◌≤◌, ◌<◌, ◌≤ℤ◌, ◌⊎◌, ℕ, List, [], ◌∷◌, Some, None, IsSome}
use Rattle.std.specs.List.{Contains}
use Rattle.kb_topics.specs.declared.command.Command.{Command}
use Rattle.kb_topics.specs.declared.command.Command.TheVariants.{Delete, DeleteGroup}
use Rattle.kb_topics.specs.Known.{Known, PartitionState, TopicState, committed_at, topic_at}
use Rattle.kb_topics.specs.Reading.{in_use, read_all}

-- After some commands a partition starts no earlier than it did, and each group that had committed an offset of it has one, unless one of
-- them deletes the group.
pub record IsLaterPartition (commands : List Command) (old new : PartitionState) : Type 0 where
  pub start : old.start ≤ℤ new.start
  pub commits : (group : List ℕ) → IsSome (committed_at group old)
      → Contains commands (DeleteGroup group) ⊎ IsSome (committed_at group new)

-- as many partitions, each later
abbrev pub AreLaterPartitions : List Command → List PartitionState → List PartitionState → Type 0
AreLaterPartitions commands [] [] = Unit {0}
AreLaterPartitions commands [] (q ∷ qs) = ⊥
AreLaterPartitions commands (p ∷ ps) [] = ⊥
AreLaterPartitions commands (p ∷ ps) (q ∷ qs) = IsLaterPartition commands p q × AreLaterPartitions commands ps qs

-- A topic with the name and the settings that it had, and its partitions.
pub record IsStillThere (commands : List Command) (old new : TopicState) : Type 0 where
  pub name : new.name ≡ old.name
  pub config : new.config ≡ old.config
  pub partitions : AreLaterPartitions commands old.partitions new.partitions

-- It is there under its instance.
pub record StaysAt (commands : List Command) (instance : ℕ) (t : TopicState) (new : Known) : Type 0 where
  pub topic : TopicState
  pub at : topic_at instance new.topics ≡ Some topic
  pub still : IsStillThere commands t topic

-- Those commands were applied to what was known. Each topic that none of them deletes is still there, none that was deleted comes back,
-- and no number is given out twice.
pub record GoesOnTo (old new : Known) : Type 0 where
  pub commands : List Command
  pub read : read_all (in_use old) commands ≡ Some (in_use new)
  pub topics : (instance : ℕ) (t : TopicState) → topic_at instance old.topics ≡ Some t
      → Contains commands (Delete t.name) ⊎ StaysAt commands instance t new
  pub deleted : (instance : ℕ) → instance < old.creates → topic_at instance old.topics ≡ None → topic_at instance new.topics ≡ None
  pub creates : old.creates ≤ new.creates
  pub issues : old.issues ≤ new.issues
