-- What the files of a tenant come to, which are there when a broker opens.
use Rattle.std.specs.Prelude.{◌≡◌, ◌<◌, ◌^◌, ◌++◌, ℕ, pos, List, [], ◌∷◌, length, Some, None, IsSome}
use Rattle.kb_store.specs.Disk.{Disk, Table, Files}
use Rattle.kb_batch.specs.Batch.{natural}
use Rattle.kb_segment_log.specs.Chain.{Chain, ComesTo, remaining}
use Rattle.kb_topics.specs.declared.command.Command.{Command}
use Rattle.kb_topics.specs.Known.{Known, PartitionState, partition_at}
use Rattle.kb_topics.specs.MetaLog.{Says, IsReadAs}
use Rattle.kb_topics.specs.Reading.{Reading, in_use, read_step}
use Rattle.kb_tenant_state.specs.Logs.{LogState, Logs, log_at}
use Rattle.kb_tenant_state.specs.Tied.{counted, partition_count}

-- A log that those files come to, from a start that was recorded of it.
abbrev pub IsLogOf : Files → List ℕ → ℕ → LogState → Type 0
IsLogOf files numbers start l = ComesTo files numbers start l.start l.end l.batches

-- ---- a catalog

-- The first of some batches records no command that is applicable to what was read; or there is none.
abbrev pub EndsWith : List (List ℕ) → Reading → Type 0
EndsWith [] r = Unit {0}
EndsWith (s ∷ ss) r = (c : Command) → Says s c → read_step r c ≡ None

-- What the commands of some batches of a generation are read as, up to the first batch that is no applicable command.
pub record IsLongest (generation : ℕ) (bs : List (List ℕ)) (r : Reading) : Type 0 where
  pub before : List (List ℕ)
  pub behind : List (List ℕ)
  pub split : bs ≡ before ++ behind
  pub fold : IsReadAs generation before r
  pub ends : EndsWith behind r

-- They come to that, and no command of a snapshot is missing.
abbrev pub IsLongestFold : ℕ → List (List ℕ) → Known → Type 0
IsLongestFold generation bs k = IsLongest generation bs (in_use k)

-- What the files of a generation of a catalog come to. Those of a generation whose snapshot is not whole come to nothing.
pub record ComesToKnown (files : Files) (numbers : List ℕ) (generation : ℕ) (k : Known) : Type 0 where
  pub commands : List (List ℕ)
  pub chain : Chain files numbers 0 commands
  pub known : IsLongestFold generation commands k

-- ---- a tenant

-- Which files are of which log of a tenant: of each generation of its catalog, and of each partition, by its topic's instance and its
-- number.
pub record Owners : Type 0 where
  pub catalog : ℕ → List ℕ
  pub partition : ℕ → ℕ → List ℕ

-- No generation above one is whole, of those that a header may say.
abbrev pub NoneAbove : Files → Owners → ℕ → Type 0
NoneAbove files owners generation =
    (above : ℕ) → generation < above → above < 2 ^ 63 → (k : Known) → ComesToKnown files (owners.catalog above) above k → ⊥

-- The generation of a tenant's catalog that is in use is the greatest that is whole.
pub record IsInUse (files : Files) (owners : Owners) (generation : ℕ) (k : Known) : Type 0 where
  pub small : generation < 2 ^ 63
  pub whole : ComesToKnown files (owners.catalog generation) generation k
  pub greatest : NoneAbove files owners generation

-- What a tenant has with topics: each partition that they have is the log of its own files, from the start that the catalog recorded.
pub record HasLogs (files : Files) (owners : Owners) (k : Known) (logs : Logs) : Type 0 where
  pub tied : counted length logs ≡ counted partition_count k.topics
  pub each : (i p : ℕ) (part : PartitionState) → partition_at k (pos i) (pos p) ≡ Some part
      → (l : LogState) × (log_at i p logs ≡ Some l) × IsLogOf files (owners.partition i p) (natural part.start) l

-- What a tenant has from its files: the topics are what the generation in use of its catalog comes to, and each partition is the log
-- of its own files.
pub record IsOpened (files : Files) (owners : Owners) (k : Known) (logs : Logs) : Type 0 where
  pub generation : ℕ
  pub in_use : IsInUse files owners generation k
  pub has : HasLogs files owners k logs

-- ---- what is left

-- of a tenant's files, by its logs, those that are there
abbrev pub remaining_of : Table → Owners → Owners
remaining_of table owners = record {
  catalog = λ generation. remaining table (owners.catalog generation);
  partition = λ i p. remaining table (owners.partition i p);
}

-- Of a tenant that has a generation in use nothing is lost.
abbrev pub GenerationLosesNothing : Owners → ℕ → Disk → Disk → Type 0
GenerationLosesNothing owners generation old new =
    (k : Known) (logs : Logs) → ComesToKnown old.files (owners.catalog generation) generation k → HasLogs old.files owners k logs
    → ComesToKnown new.files (remaining new.table (owners.catalog generation)) generation k
    × HasLogs new.files (remaining_of new.table owners) k logs

-- Of a tenant nothing is lost: what its files came to, those of them that are still there come to.
abbrev pub TenantLosesNothing : Owners → Disk → Disk → Type 0
TenantLosesNothing owners old new =
    (k : Known) (logs : Logs) → IsOpened old.files owners k logs → IsOpened new.files (remaining_of new.table owners) k logs

-- ---- one world

-- One world has the topics of another, and of each of their partitions the log.
pub record IsSame (k : Known) (logs : Logs) (k' : Known) (logs' : Logs) : Type 0 where
  pub topics : k' ≡ k
  pub each : (i p : ℕ) → IsSome (partition_at k (pos i) (pos p)) → log_at i p logs' ≡ log_at i p logs

-- Each world that the files come to is that one.
abbrev pub IsOnly : Files → Owners → Known → Logs → Type 0
IsOnly files owners k logs = (k' : Known) (logs' : Logs) → IsOpened files owners k' logs' → IsSame k logs k' logs'
