-- The starts of partitions that the catalogs of tenants record.
use Rattle.std.specs.Prelude.{◌≡◌, ◌&&◌, ◌++◌, ℕ, ℤ, Bool, false, max, List, [], ◌∷◌, Option, Some, None, if◌then◌else◌}
use Rattle.std.specs.FinMap.{keys}
use Rattle.std.specs.List.{filter}
use Rattle.std.specs.Ordering.{int_eq}
use Rattle.std.specs.Str.{bytes_eq}
use Rattle.kb_store.specs.Disk.{Disk, bytes_of}
use Rattle.kb_batch.specs.Batch.{is_natural, natural}
use Rattle.kb_segment.specs.Header.{Header, header_in}
use Rattle.kb_survey.specs.Listed.{is_in}
use Rattle.kb_survey.specs.Whole.{batches_among}
use Rattle.kb_topics.specs.declared.command.Command.{Command}
use Rattle.kb_topics.specs.declared.command.Command.TheVariants.{Start}
use Rattle.kb_topics.specs.declared.command.MoveStart.{MoveStart}
use Rattle.kb_replay.specs.Command.{RecordsCommand}

-- what a file's header says, where it can be read
abbrev pub header_at : Disk → ℕ → Option Header
header_at d file = if is_in (keys d.table) file then header_in (bytes_of d file) else None

-- ---- what is recorded

abbrev pub with_start : List MoveStart → Option Command → List MoveStart
with_start starts (Some (Start start)) = starts ++ start ∷ []
with_start starts command = starts

-- Behind some starts come those that the batches record, one after another.
abbrev pub RecordsEach : List (List ℕ) → List MoveStart → List MoveStart → Type 0
RecordsEach [] before after = after ≡ before
RecordsEach (b ∷ bs) before after = (command : Option Command) × RecordsCommand b command × RecordsEach bs (with_start before command) after

abbrev pub is_catalogs : List ℕ → Option Header → Bool
is_catalogs tenant None = false
is_catalogs tenant (Some h) = bytes_eq h.tenant tenant && is_natural 1 h.kind

-- the whole batches of a file, if it is of the tenant's catalog
abbrev pub batches_at : Disk → List ℕ → ℕ → List (List ℕ)
batches_at d tenant file =
    if is_catalogs tenant (header_at d file) then batches_among (if is_in (keys d.table) file then bytes_of d file else []) else []

-- the same of some files
abbrev pub batches_of_files : Disk → List ℕ → List ℕ → List (List ℕ)
batches_of_files d tenant [] = []
batches_of_files d tenant (file ∷ files) = batches_at d tenant file ++ batches_of_files d tenant files

-- a header is that of a catalog
abbrev pub is_any_catalogs : Option Header → Bool
is_any_catalogs None = false
is_any_catalogs (Some h) = is_natural 1 h.kind

-- of some files those of catalogs
abbrev pub catalogs_of : Disk → List ℕ → List ℕ
catalogs_of d files = filter (λ file. is_any_catalogs (header_at d file)) files

-- Of each of some tenants those that all of its catalogs' whole batches record.
abbrev pub AreRecorded : Disk → List (List ℕ) → List (List MoveStart) → Type 0
AreRecorded d [] [] = Unit {0}
AreRecorded d [] (of ∷ starts) = ⊥
AreRecorded d (tenant ∷ tenants) [] = ⊥
AreRecorded d (tenant ∷ tenants) (of ∷ starts) = RecordsEach (batches_of_files d tenant (keys d.table)) [] of × AreRecorded d tenants starts

-- ---- the start of a partition

abbrev pub is_start_of : ℤ → ℤ → MoveStart → Bool
is_start_of instance partition s = int_eq s.instance instance && int_eq s.partition partition

abbrev pub start_among : ℤ → ℤ → ℕ → MoveStart → ℕ
start_among instance partition greatest s = if is_start_of instance partition s then max greatest (natural s.offset) else greatest

abbrev pub greatest_with : ℤ → ℤ → ℕ → List MoveStart → ℕ
greatest_with instance partition greatest [] = greatest
greatest_with instance partition greatest (s ∷ ss) = greatest_with instance partition (start_among instance partition greatest s) ss

-- the greatest of some starts that is of the partition; 0 where none is
abbrev pub greatest_start : ℤ → ℤ → List MoveStart → ℕ
greatest_start instance partition starts = greatest_with instance partition 0 starts

-- of some tenants' starts those of the tenant of a name
abbrev pub starts_named : List ℕ → List (List ℕ) → List (List MoveStart) → List MoveStart
starts_named name [] starts = []
starts_named name (n ∷ names) [] = []
starts_named name (n ∷ names) (of ∷ starts) = if bytes_eq n name then of else starts_named name names starts

abbrev pub start_by : List (List ℕ) → List (List MoveStart) → Header → ℕ
start_by names starts h = if is_natural 0 h.kind then greatest_start h.instance h.partition (starts_named h.tenant names starts) else 0

-- The start that is recorded of a file's partition. Of a catalog, and of a file whose header cannot be read, none is.
abbrev pub start_of : List (List ℕ) → List (List MoveStart) → Option Header → ℕ
start_of names starts None = 0
start_of names starts (Some h) = start_by names starts h
