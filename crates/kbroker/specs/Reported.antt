-- What is reported of a start on a folder.
use Rattle.std.specs.Prelude.{◌≡◌, ◌⊎◌, ℕ, List, Option, None}
use Rattle.std.specs.Io.KnownBytes.{Appends, Keeps}
use Rattle.kb_operator.specs.Report.{Looked, no_consent, report_if, report_text}
use Rattle.kb_operator.specs.Written.{WritesFront}
use Rattle.kb_operator.specs.declared.journal.Held.{Held}
use Rattle.kb_start.specs.Verdict.{why_refused}
use Rattle.kb_start.specs.declared.deleted.Deleted.{Deleted}

-- The whole report on what there is and what was seen, and nothing refuses the start.
abbrev pub IsReported : List ℕ → Option (List ℕ) → Option (List ℕ) → Type 0
IsReported path old new = (held : Held) × (deleted : Deleted) × (seen : Looked) × (why_refused no_consent seen.surveyed ≡ None)
    × Appends old new (report_text path held deleted seen)

-- Some front of one, or nothing.
abbrev pub IsReportedInPart : List ℕ → Option (List ℕ) → Option (List ℕ) → Type 0
IsReportedInPart path old new = Keeps old new
    ⊎ ((held : Held) × (deleted : Deleted) × (seen : Option Looked) × WritesFront (report_if path held deleted seen) old new)
