-- What is kept of files before a start drops it.
use Rattle.std.specs.Prelude.{◌++◌, ◌&&◌, ◌||◌, ℕ, Bool, false, List, [], ◌∷◌, Option, Some, None, drop, unwrap_or, if◌then◌else◌}
use Rattle.std.specs.FinMap.{keys}
use Rattle.std.specs.Ordering.{int_eq}
use Rattle.std.specs.Str.{bytes_eq}
use Rattle.kb_store.specs.Disk.{Disk, bytes_of}
use Rattle.kb_segment.specs.Header.{Header}
use Rattle.kb_survey.specs.Listed.{is_in}
use Rattle.kb_start.specs.declared.left.Left.{Left}
use Rattle.kb_start.specs.declared.losses.Loss.{Loss}
use Rattle.kb_start.specs.Left.{is_dropped}
use Rattle.kb_start.specs.Starts.{header_at}

-- the bytes of a file from a place on
pub record Part : Type 0 where
  pub file : ℕ
  pub place : ℕ
  pub bytes : List ℕ

abbrev pub part : ℕ → ℕ → List ℕ → Part
part file place bytes = record { file = file; place = place; bytes = bytes }

-- two headers are of one kind and generation
abbrev pub is_one_kind : Header → Header → Bool
is_one_kind a b = int_eq a.kind b.kind && int_eq a.generation b.generation

abbrev pub is_one_partition : Header → Header → Bool
is_one_partition a b = int_eq a.instance b.instance && int_eq a.partition b.partition

-- and of one log
abbrev pub is_one_log : Header → Header → Bool
is_one_log a b = bytes_eq a.tenant b.tenant && is_one_kind a b && is_one_partition a b

abbrev pub are_of_one : Option Header → Option Header → Bool
are_of_one None o = false
are_of_one (Some a) None = false
are_of_one (Some a) (Some b) = is_one_log a b

-- one of some losses is of the log of a header
abbrev pub is_lost : List Loss → Option Header → Bool
is_lost [] o = false
is_lost (l ∷ ls) o = are_of_one l.header o || is_lost ls o

abbrev pub bytes_behind : Disk → ℕ → ℕ → List ℕ
bytes_behind d file place = drop place (if is_in (keys d.table) file then bytes_of d file else [])

-- what an opening drops of a file, if it loses whole batches of its log, or the file is one of some that lose a damaged one
abbrev pub dropped_part : List Loss → List ℕ → Disk → Left → List Part
dropped_part losses damaged d l =
    let place = unwrap_or l.after 0 in
    if is_dropped l && (is_lost losses (header_at d l.file) || is_in damaged l.file)
    then part l.file place (bytes_behind d l.file place) ∷ [] else []

-- the same of some files
abbrev pub parts_of : List Loss → List ℕ → Disk → List Left → List Part
parts_of losses damaged d [] = []
parts_of losses damaged d (l ∷ ls) = dropped_part losses damaged d l ++ parts_of losses damaged d ls
