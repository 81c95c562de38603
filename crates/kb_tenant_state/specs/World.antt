-- The world of a tenant: all that its replies depend on. No file, index or cache is in it, and no other tenant.
use Rattle.std.specs.Prelude.{ℕ, ℤ, pos, negsuc, [], Option, Some, None}
use Rattle.kb_topics.specs.Known.{Known, empty}
use Rattle.kb_tenant_state.specs.Logs.{Logs, LogState, log_at}
use Rattle.kb_tenant_state.specs.declared.topic_partition.TopicPartition.{TopicPartition}

-- its topics with their settings, recorded starts and committed offsets, and how many topics were made and producer ids given out;
-- and the logs of each topic, under its instance
pub record World : Type 0 where
  pub known : Known
  pub logs : Logs

-- nothing was made yet
abbrev pub new_world : World
new_world = record { known = empty; logs = [] }

-- where a partition of a topic would be; no topic has a partition of a negative number
abbrev pub place_in : Option ℕ → ℤ → Option TopicPartition
place_in None p = None
place_in (Some i) (negsuc p) = None
place_in (Some i) (pos p) = Some (record { instance = i; number = p })

-- the log at a place
abbrev pub log_in : World → TopicPartition → Option LogState
log_in w place = log_at place.instance place.number w.logs
