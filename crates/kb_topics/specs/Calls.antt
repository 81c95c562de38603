-- What a call that records a command answers and leaves.
use Rattle.std.specs.Prelude.{◌≡◌, ◌≤◌, ◌<◌, ◌+◌, ◌^◌, ◌⊎◌, ℕ, List, [], ◌∷◌, ◌++◌, Option, Some, None, Result, Ok, Err}
use Rattle.kb_store.specs.Disk.{Grew}
use Rattle.kb_log.specs.OnShelf.{OnShelf, batches_of, WhereHonest}
use Rattle.kb_topics.specs.declared.fault.CatalogFault.{CatalogFault}
use Rattle.kb_topics.specs.declared.fault.CatalogFault.TheVariants as faults
use Rattle.kb_topics.specs.declared.command.Command.{Command}
use Rattle.kb_topics.specs.Known.{Known, step}
use Rattle.kb_topics.specs.MetaLog.{Says, IsFoldOf}

-- One batch that records the command was added at the end of the log, which had room for it.
pub record Appended (a b : OnShelf) (c : Command) : Type 0 where
  pub start : b.log.start ≡ a.log.start
  pub room : a.log.end + 1 < 2 ^ 63
  pub end : b.log.end ≡ a.log.end + 1
  pub added : WhereHonest a b ((s : List ℕ) × Says s c × (batches_of b ≡ batches_of a ++ s ∷ []))

-- The log has the batches that it had.
pub record Unchanged (a b : OnShelf) : Type 0 where
  pub start : b.log.start ≡ a.log.start
  pub end : b.log.end ≡ a.log.end
  pub kept : WhereHonest a b (batches_of b ≡ batches_of a)

-- Why an append is refused: the log is full; or the store refused, which is honest and whose failures grew, or no file number is
-- left; or memory ran out.
abbrev pub IsLogCause : OnShelf → CatalogFault → OnShelf → Type 0
IsLogCause a faults.Full b = 2 ^ 63 ≤ a.log.end + 1
IsLogCause a faults.Store b = WhereHonest a b (Grew a.disk.failures b.disk.failures ⊎ (2 ^ 64 ≤ a.next))
IsLogCause a faults.Memory b = Unit {0}
IsLogCause a _ b = ⊥

-- an append of a command's batch
abbrev pub Appends : OnShelf → Command → Result (Unit {0}) CatalogFault → OnShelf → Type 0
Appends a c (Ok u) b = Appended a b c
Appends a c (Err f) b = IsLogCause a f b × Unchanged a b

-- Why a call is refused: the command is not to be recorded, or else the append is refused.
abbrev pub IsCause : OnShelf → Option CatalogFault → CatalogFault → OnShelf → Type 0
IsCause a (Some g) f b = f ≡ g
IsCause a None f b = IsLogCause a f b

-- Where the catalog was what its log's batches record, those of whatever generation, it still is.
abbrev pub StaysFold : OnShelf → Known → OnShelf → Known → Type 0
StaysFold a old b new = WhereHonest a b ((generation : ℕ) → IsFoldOf generation (batches_of a) old → IsFoldOf generation (batches_of b) new)

-- A call that records a command. Where it is accepted the catalog is what the command makes of it; where it is refused the catalog
-- and the log's batches are what they were.
abbrev pub Records : {T : Type 0} → OnShelf → Known → Command → T → Option CatalogFault → Result T CatalogFault → OnShelf → Known → Type 0
Records a old c answer refusal (Ok x) b new =
    (refusal ≡ None) × (x ≡ answer) × (step old c ≡ Some new) × Appended a b c × StaysFold a old b new
Records a old c answer refusal (Err f) b new = IsCause a refusal f b × (new ≡ old) × Unchanged a b × StaysFold a old b new
