-- The catalog that the files of its log come to.
use Rattle.std.specs.Prelude.{◌≡◌, ◌<◌, ℕ, List}
use Rattle.kb_store.specs.Disk.{Disk, Files}
use Rattle.kb_log.specs.Log.{first_base}
use Rattle.kb_log.specs.OnShelf.{OnShelf, Agrees, batches_of}
use Rattle.kb_segment_log.specs.SegmentLog.{segment_log}
use Rattle.kb_segment_log.specs.Chain.{Chain, remaining}
use Rattle.kb_segment_log.specs.declared.log.SegmentLog.{SegmentLog}
use Rattle.kb_topics.specs.declared.catalog.Catalog.{Catalog}
use Rattle.kb_topics.specs.Catalog.{known, meta_log}
use Rattle.kb_topics.specs.Known.{Known}
use Rattle.kb_topics.specs.MetaLog.{IsFoldOf}
use Rattle.kb_opening.specs.Opened.{Owners, ComesToKnown, IsLongestFold, NoneAbove}

-- The log starts where its first batch does, and where it has none at its end.
abbrev pub StartsWhole : OnShelf → Type 0
StartsWhole a = first_base a.log.end (batches_of a) ≡ a.log.start

-- A catalog of the commands of some batches of a generation, up to the first that is no applicable one; its log has those batches
-- alone.
pub record IsCatalogFrom (generation : ℕ) (bs : List (List ℕ)) (c : Catalog SegmentLog) (now : Files) : Type 0 where
  pub agrees : (segment_log (meta_log c)).agrees now
  pub fold : IsFoldOf generation ((segment_log (meta_log c)).batches now) (known c)
  pub known : IsLongestFold generation bs (known c)

-- One of the chain of some files.
pub record IsCatalogOf (files : Files) (numbers : List ℕ) (generation : ℕ) (c : Catalog SegmentLog) (now : Files) : Type 0 where
  pub agrees : (segment_log (meta_log c)).agrees now
  pub fold : IsFoldOf generation ((segment_log (meta_log c)).batches now) (known c)
  pub commands : List (List ℕ)
  pub chain : Chain files numbers 0 commands
  pub known : IsLongestFold generation commands (known c)

-- The batches of a generation are whole: they come to something.
abbrev pub AreWhole : ℕ → List (List ℕ) → Type 0
AreWhole generation bs = (k : Known) × IsLongestFold generation bs k

-- So are those of some files.
abbrev pub IsWhole : Files → List ℕ → ℕ → Type 0
IsWhole files numbers generation = (k : Known) × ComesToKnown files numbers generation k

-- Of the generations of a tenant's catalog none above that one is whole; and it is whole itself, but where it is the first.
pub record IsGreatest (files : Files) (owners : Owners) (generation : ℕ) : Type 0 where
  pub none_above : NoneAbove files owners generation
  pub whole : 0 < generation → IsWhole files (owners.catalog generation) generation

-- ---- what is left

-- Of a catalog nothing is lost: what its files came to, those of them that are still there come to.
abbrev pub LosesNoCommand : List ℕ → ℕ → Disk → Disk → Type 0
LosesNoCommand numbers generation old new =
    (k : Known) → ComesToKnown old.files numbers generation k → ComesToKnown new.files (remaining new.table numbers) generation k

-- The same of a log that had nothing but its batches in its files, by what its batches record.
abbrev pub KeepsKnown : OnShelf → List ℕ → ℕ → Disk → Type 0
KeepsKnown a numbers generation new =
    new.honest → Agrees a → StartsWhole a → a.log.exact a.disk.table → a.log.resumes 0 → (k : Known)
    → IsLongestFold generation (batches_of a) k → ComesToKnown new.files (remaining new.table numbers) generation k
