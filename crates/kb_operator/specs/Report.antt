-- What is written of what a start on a folder would find.
use Rattle.std.specs.Prelude.{◌-◌, ◌++◌, ℕ, List, [], ◌∷◌, codes, map, take, length, false, Option, Some, None, option_map, string_bytes, if◌then◌else◌}
use Rattle.std.specs.List.{flat_map}
use Rattle.std.specs.declared.string.String.{String}
use Rattle.kb_store.specs.Disk.{Disk}
use Rattle.kb_survey.specs.Listed.{is_in}
use Rattle.kb_survey.specs.declared.stray.Stray.{Stray}
use Rattle.kb_start.specs.declared.deleted.Deleted.{Deleted}
use Rattle.kb_start.specs.declared.left.Left.{Left}
use Rattle.kb_start.specs.declared.losses.Loss.{Loss}
use Rattle.kb_start.specs.declared.losses.Opened.{Opened}
use Rattle.kb_start.specs.declared.losses.Surveyed.{Surveyed}
use Rattle.kb_start.specs.declared.verdict.Cause.{Cause}
use Rattle.kb_start.specs.declared.verdict.Cause.TheVariants.{Damage, Strays}
use Rattle.kb_start.specs.declared.verdict.Consent.{Consent}
use Rattle.kb_start.specs.Left.{is_dropped}
use Rattle.kb_start.specs.Starts.{header_at}
use Rattle.kb_start.specs.Survey.{is_superseded, known_of, stray_at, used_by}
use Rattle.kb_start.specs.Verdict.{why_refused}
use Rattle.kb_operator.specs.declared.journal.Held.{Held}
use Rattle.kb_operator.specs.declared.report.Found.{Found}
use Rattle.kb_operator.specs.Found.{count_text, deleted_text, held_line, kept_lines, stray_lines}
use Rattle.kb_operator.specs.Logged.{texts_of}
use Rattle.kb_operator.specs.Texts.{drop_line, loss_line, stray_line}

-- ---- the lines of files

-- of files that would lose whole batches: of the first 20, and how many there are more
abbrev pub loss_lines : List ℕ → List Loss → List (List ℕ)
loss_lines path ls = map (loss_line path) (take 20 ls) ++ texts_of (count_text (codes "and ") (length ls - 20) (codes " files more"))

-- what an opening drops of a file, if anything, where some files lose a damaged batch
abbrev pub dropped_of : List ℕ → Opened → Disk → Left → List (List ℕ)
dropped_of damaged o d l =
    if is_dropped l then drop_line l (is_superseded (used_by o d) (header_at d l.file)) (is_in damaged l.file) ∷ [] else []

abbrev pub dropped_lines : List ℕ → Opened → Disk → List Left → List (List ℕ)
dropped_lines damaged o d [] = []
dropped_lines damaged o d (l ∷ ls) = dropped_of damaged o d l ++ dropped_lines damaged o d ls

-- why a file is left aside, where it is there
abbrev pub stray_if : List ℕ → ℕ → Option Stray → List (List ℕ)
stray_if path file None = []
stray_if path file (Some stray) = stray_line path file stray ∷ []

abbrev pub aside_lines : List ℕ → Opened → Disk → List ℕ → List (List ℕ)
aside_lines path o d [] = []
aside_lines path o d (file ∷ files) =
    stray_if path file (stray_at d (known_of o).names o.next_instances.now file) ++ aside_lines path o d files

-- ---- what a start tells that goes on

-- so many parts of files are kept in a folder, of which so many are whole files that are set aside
abbrev pub kept_if : ℕ → Option (ℕ × List ℕ) → List (List ℕ)
kept_if aside None = []
kept_if aside (Some kept) = kept_lines kept.0 aside kept.1

abbrev pub kept_parts : {A : Type 0} → Option (ℕ × String A) → Option (ℕ × List ℕ)
kept_parts kept = option_map (λ it. (it.0, string_bytes it.1)) kept

-- what it drops, what of that is kept, how many files it sets aside, and what else it found
pub record Opening : Type 0 where
  pub dropped : List (List ℕ)
  pub kept : Option (ℕ × List ℕ)
  pub aside : ℕ
  pub surveyed : Surveyed

abbrev pub opening_of : {A B : Type 0} → List (String A) → Option (ℕ × String B) → ℕ → Surveyed → Opening
opening_of dropped kept aside surveyed =
    record { dropped = map (λ text. string_bytes text) dropped; kept = kept_parts kept; aside = aside; surveyed = surveyed }

abbrev pub opening_lines : Opening → List (List ℕ)
opening_lines o = o.dropped ++ kept_if o.aside o.kept ++ stray_lines o.surveyed.strays

-- what one tells that is refused
abbrev pub damage_lines : List ℕ → Option Cause → List Loss → List (List ℕ)
damage_lines path (Some Damage) ls = loss_lines path ls
damage_lines path (Some Strays) ls = []
damage_lines path None ls = []

-- ---- the report

-- what was found of the files of a folder
pub record Looked : Type 0 where
  pub surveyed : Surveyed
  pub dropped : List (List ℕ)
  pub strays : List (List ℕ)

abbrev pub bytes_of_each : {A : Type 0} → List (String A) → List (List ℕ)
bytes_of_each = map (λ text. string_bytes text)

abbrev pub seen_of : Found → Looked
seen_of f = record { surveyed = f.surveyed; dropped = bytes_of_each f.dropped.items; strays = bytes_of_each f.strays.items }

-- an operator who agrees to nothing
abbrev pub no_consent : Consent
no_consent = record { drop_damaged = false; accept_strays = false }

-- a start that nothing refuses goes on
abbrev pub verdict_lines : Option Cause → List (List ℕ)
verdict_lines None = codes "a start goes on" ∷ []
verdict_lines (Some cause) = []

-- what there is, what a start would remove, drop and lose, and what it would leave aside
abbrev pub report_lines : List ℕ → Held → Deleted → Looked → List (List ℕ)
report_lines path held deleted seen =
    (held_line held ∷ []) ++ texts_of (deleted_text deleted) ++ seen.dropped ++ map (loss_line path) seen.surveyed.losses.items ++ seen.strays

-- lines, each with its end
abbrev pub lines_text : List (List ℕ) → List ℕ
lines_text lines = flat_map (λ line. line ++ codes "\n") lines

abbrev pub report_text : List ℕ → Held → Deleted → Looked → List ℕ
report_text path held deleted seen =
    lines_text (report_lines path held deleted seen) ++ lines_text (verdict_lines (why_refused no_consent seen.surveyed))

-- nothing is written before the folder was looked through
abbrev pub report_if : List ℕ → Held → Deleted → Option Looked → List ℕ
report_if path held deleted None = []
report_if path held deleted (Some seen) = report_text path held deleted seen
