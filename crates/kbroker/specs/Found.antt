-- What a start found.
use Rattle.std.specs.Prelude.{◌≡◌, ℕ, List, [], ◌∷◌, All, Some, if◌then◌else◌}
use Rattle.std.specs.FinMap.{get}
use Rattle.kb_store.specs.Disk.{Table}
use Rattle.kb_survey.specs.Listed.{is_in}
use Rattle.kb_operator.specs.declared.journal.Held.{Held}
use Rattle.kb_restart.specs.declared.counts.Counts.{Counts}
use Rattle.kb_restart.specs.declared.lengths.FileLength.{FileLength}
use Rattle.kb_start.specs.declared.left.Left.{Left}
use Rattle.kb_start.specs.Left.{total_of}

-- what a broker has that opened with those counts, and with those files
abbrev pub held_of : Counts → List Left → Held
held_of counts files = record {
  tenants = counts.tenants;
  topics = counts.topics;
  partitions = counts.partitions;
  strays = counts.strays;
  files = total_of files;
}

-- a table has each of these files with that length
abbrev pub HaveLengths : Table → List FileLength → Type 0
HaveLengths table files = All (λ f. get table f.file ≡ Some f.length) files

-- a file with what it had and what a table has of it, unless it is one of those that were deleted
abbrev pub left_of : Table → List ℕ → FileLength → List Left
left_of table deleted f =
    if is_in deleted f.file then [] else record { file = f.file; before = f.length; after = get table f.file } ∷ []
