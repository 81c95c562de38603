-- What the commands of a generation of a meta log come to, one after another. Those above generation 0 begin with a snapshot.
use Rattle.std.specs.Prelude.{ℕ, zero, suc, ℤ, pos, Bool, List, [], ◌∷◌, length, Option, Some, None, is_none, nat_lt}
use Rattle.std.specs.Prelude.{int_le, int_lt, ◌&&◌, if◌then◌else◌}
use Rattle.std.specs.Option.{option_map, option_and_then}
use Rattle.std.specs.Ordering.{nat_cmp}
use Rattle.std.specs.BTreeMap.{insert_entry}
use Rattle.kb_batch.specs.Batch.{natural}
use Rattle.kb_topics.specs.Name.{is_legal}
use Rattle.kb_topics.specs.Known.{Known, TopicState, empty, topic_at, named, new_topic, is_limit, is_partition_count, config_in, step}
use Rattle.kb_topics.specs.declared.command.BeginSnapshot.{BeginSnapshot}
use Rattle.kb_topics.specs.declared.command.CreateTopic.{CreateTopic}
use Rattle.kb_topics.specs.declared.command.Command.{Command}
use Rattle.kb_topics.specs.declared.command.Command.TheVariants.{Commit, Start, Snapshot, Topic}
use Rattle.kb_topics.specs.declared.stage.Stage.{Stage}
use Rattle.kb_topics.specs.declared.stage.Stage.TheVariants.{Fresh, Left}

-- What was read so far, and the stage: nothing of a generation that begins with a snapshot, or all but so many of its commands.
pub record Reading : Type 0 where
  pub known : Known
  pub stage : Stage

-- so many commands of a snapshot are left
abbrev pub loading : ℕ → Known → Reading
loading n k = record { known = k; stage = Left n }

-- a catalog in use: no command of a snapshot is left
abbrev pub in_use : Known → Reading
in_use = loading 0

-- nothing of a generation that begins with a snapshot
abbrev pub from_fresh : Reading
from_fresh = record { known = empty; stage = Fresh }

-- Generation 0 begins with nothing in use, each other one with a snapshot.
abbrev pub starting_at : ℕ → Reading
starting_at zero = in_use empty
starting_at (suc generation) = from_fresh

-- ---- a snapshot

-- none of its numbers is negative
abbrev pub is_snapshot : BeginSnapshot → Bool
is_snapshot s = int_le (pos 0) s.count && int_le (pos 0) s.instances && int_le (pos 0) s.issues

-- no topics yet, but so many numbers that were given out
abbrev pub known_from : BeginSnapshot → Known
known_from s = record { topics = []; creates = natural s.instances; issues = natural s.issues }

-- what a snapshot begins with; so many of its commands are left
abbrev pub begun : BeginSnapshot → Reading
begun s = loading (natural s.count) (known_from s)

-- an instance that was given out, and is no topic's
abbrev pub is_free : Known → ℤ → Bool
is_free k i = int_le (pos 0) i && int_lt i (pos k.creates) && is_none (topic_at (natural i) k.topics)

-- a legal and new name, such an instance, 1 to 64 partitions, limits from -1 on, and fewer than 1,000 topics
abbrev pub may_hold : Known → CreateTopic → Bool
may_hold k c =
    is_legal c.name && is_none (named c.name k.topics) && is_free k c.instance && is_partition_count c.partitions
    && is_limit c.retention_ms && is_limit c.retention_bytes && nat_lt (length k.topics) 1000

-- one more topic, under an instance that was given out
abbrev pub with_topic_at : Known → ℕ → TopicState → Known
with_topic_at k i t = record k { topics = insert_entry nat_cmp k.topics i t }

-- what a command of a snapshot makes of what was there; none where it is not applicable
abbrev pub load : Known → Command → Option Known
load k (Topic c) =
    if may_hold k c then Some (with_topic_at k (natural c.instance) (new_topic c.name (natural c.partitions) (config_in c))) else None
load k (Commit c) = step k (Commit c)
load k (Start s) = step k (Start s)
load k _ = None

-- ---- commands

-- the first command of a generation that begins with a snapshot
abbrev pub first_step : Command → Option Reading
first_step (Snapshot s) = if is_snapshot s then Some (begun s) else None
first_step _ = None

abbrev pub step_in : Known → Stage → Command → Option Reading
step_in k Fresh c = first_step c
step_in k (Left zero) c = option_map in_use (step k c)
step_in k (Left (suc n)) c = option_map (loading n) (load k c)

-- what a command makes of what was read so far; none where it is not applicable
abbrev pub read_step : Reading → Command → Option Reading
read_step r c = step_in r.known r.stage c

-- what applicable commands come to, one after another
abbrev pub read_all : Reading → List Command → Option Reading
read_all r [] = Some r
read_all r (c ∷ cs) = option_and_then (λ r'. read_all r' cs) (read_step r c)
