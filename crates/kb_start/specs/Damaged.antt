-- Of which files an opening drops an end that may be of a damaged batch.
use Rattle.std.specs.Prelude.{◌&&◌, ℕ, Bool, false, not, List, [], ◌∷◌, Option, Some, None, if◌then◌else◌}
use Rattle.kb_store.specs.Disk.{Disk}
use Rattle.kb_batch.specs.Batch.{natural}
use Rattle.kb_segment.specs.Header.{Header}
use Rattle.kb_survey.specs.Ending.{behind_run, is_damaged}
use Rattle.kb_start.specs.declared.left.Left.{Left}
use Rattle.kb_start.specs.declared.losses.Opened.{Opened}
use Rattle.kb_start.specs.Kept.{bytes_behind}
use Rattle.kb_start.specs.Left.{is_dropped}
use Rattle.kb_start.specs.Starts.{header_at}
use Rattle.kb_start.specs.Survey.{is_superseded, used_by}

-- What a file with that header loses: all from a place on, or where it goes whole what stands behind its batches.
abbrev pub lost_end : Disk → ℕ → Option ℕ → Header → List ℕ
lost_end d file None h = behind_run (natural h.base) (bytes_behind d file h.size)
lost_end d file (Some place) h = bytes_behind d file place

-- that may be of a damaged batch, and no snapshot took its place
abbrev pub is_end_damaged : List Header → Disk → Left → Option Header → Bool
is_end_damaged used d l None = false
is_end_damaged used d l (Some h) = not (is_superseded used (Some h)) && is_damaged (lost_end d l.file l.after h)

-- it loses an end that may be
abbrev pub has_damaged_end : List Header → Disk → Left → Bool
has_damaged_end used d l = is_dropped l && is_end_damaged used d l (header_at d l.file)

-- those of some files
abbrev pub damaged_among : List Header → Disk → List Left → List ℕ
damaged_among used d [] = []
damaged_among used d (l ∷ ls) =
    if has_damaged_end used d l then l.file ∷ damaged_among used d ls else damaged_among used d ls

-- those of an opening's
abbrev pub damaged_files : Opened → Disk → List ℕ
damaged_files o d = damaged_among (used_by o d) d o.files.now
