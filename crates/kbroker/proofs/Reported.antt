-- What is reported of a start on a folder.
use Rattle.std.proofs.Common.{List, ℕ, Option, Result, Ok, Err, inl, inr}
use Rattle.std.specs.Prelude.{OnErr}
use Rattle.std.proofs.KnownBytes.{Keeps-refl}
use Rattle.kb_operator.specs.Report.{Looked, report_if}
use Rattle.kb_operator.specs.Written.{WritesFront}
use Rattle.kb_operator.specs.declared.journal.Held.{Held}
use Rattle.kb_start.specs.declared.deleted.Deleted.{Deleted}
use Rattle.kbroker.specs.Reported.{IsReportedInPart}

-- nothing was written
pub no_report : {A E : Type 0} (r : Result A E) (path : List ℕ) (a : Option (List ℕ)) → OnErr r (IsReportedInPart path a a)
no_report (Ok x) path a = tt
no_report (Err e) path a = inl (Keeps-refl a)

-- some front was
pub front_report : {A E : Type 0} (r : Result A E) (path : List ℕ) (held : Held) (deleted : Deleted) (a b : Option (List ℕ))
    → ((seen : Option Looked) × WritesFront (report_if path held deleted seen) a b) → OnErr r (IsReportedInPart path a b)
front_report (Ok x) path held deleted a b h = tt
front_report (Err e) path held deleted a b h = inr (held, deleted, h.0, h.1)
