-- Which files a start sets aside, and what is kept of them.
use Rattle.std.specs.Prelude.{ℕ, Bool, false, List, [], ◌∷◌, Option, Some, None, is_none, if◌then◌else◌}
use Rattle.std.specs.List.{filter}
use Rattle.kb_store.specs.Disk.{Disk}
use Rattle.kb_survey.specs.declared.stray.Stray.{Stray}
use Rattle.kb_survey.specs.Stray.{is_unfit}
use Rattle.kb_start.specs.declared.losses.Loss.{Loss}
use Rattle.kb_start.specs.Kept.{bytes_behind, part, Part}
use Rattle.kb_start.specs.Survey.{stray_at}

-- what is written from now on may be mixed up with it later
abbrev pub is_in_way : Option Stray → Bool
is_in_way None = false
is_in_way (Some stray) = is_unfit stray

-- of some files of no log those that are in the way
abbrev pub in_way_among : Disk → List (List ℕ) → List ℕ → List ℕ → List ℕ
in_way_among d names nexts files = filter (λ file. is_in_way (stray_at d names nexts file)) files

-- of some losses the files whose header cannot be read
abbrev pub unreadable_among : List Loss → List ℕ
unreadable_among [] = []
unreadable_among (l ∷ ls) = if is_none l.header then l.file ∷ unreadable_among ls else unreadable_among ls

-- a file, whole
abbrev pub whole_part : Disk → ℕ → Part
whole_part d file = part file 0 (bytes_behind d file 0)

-- each of some files, whole
abbrev pub whole_parts : Disk → List ℕ → List Part
whole_parts d [] = []
whole_parts d (file ∷ files) = whole_part d file ∷ whole_parts d files
