-- What is written of a report.
use Rattle.std.proofs.Common.{◌≡◌, ◌++◌, [], ℕ, List, Option, Some, None, Result, Ok, Err, append-nil, refl, subst, sym}
use Rattle.std.specs.Prelude.{IfOk, OnErr, OnOk}
use Rattle.std.specs.Io.KnownBytes.{Appends}
use Rattle.std.proofs.KnownBytes.{Appends-nil}
use Rattle.kb_start.specs.Verdict.{why_refused}
use Rattle.kb_start.specs.declared.deleted.Deleted.{Deleted}
use Rattle.kb_operator.specs.declared.journal.Held.{Held}
use Rattle.kb_operator.specs.Report.{Looked, no_consent, report_if, report_text}
use Rattle.kb_operator.specs.Written.{WritesFront}

-- some front of a report was written, or nothing
abbrev pub SomeFront : List ℕ → Held → Deleted → Option (List ℕ) → Option (List ℕ) → Type 0
SomeFront path held deleted a b = (seen : Option Looked) × WritesFront (report_if path held deleted seen) a b

pub nothing : (path : List ℕ) (held : Held) (deleted : Deleted) (a : Option (List ℕ)) → SomeFront path held deleted a a
nothing path held deleted a = (None, record { front = []; rest = []; split = refl; wrote = Appends-nil a })

pub front_of : (path : List ℕ) (held : Held) (deleted : Deleted) (seen : Looked) (text : List ℕ) (a b : Option (List ℕ)) → text ≡ report_text path held deleted seen
    → WritesFront text a b → SomeFront path held deleted a b
front_of path held deleted seen text a b is w = (Some seen, subst (λ t. WritesFront t a b) is w)

pub whole_of : (path : List ℕ) (held : Held) (deleted : Deleted) (seen : Looked) (text : List ℕ) (a b : Option (List ℕ)) → text ≡ report_text path held deleted seen
    → Appends a b text → SomeFront path held deleted a b
whole_of path held deleted seen text a b is w = front_of path held deleted seen text a b is (record { front = text; rest = []; split = sym (append-nil text); wrote = w })

pub on_err : {A E P : Type 0} (r : Result A E) → P → OnErr r P
on_err (Ok a) p = tt
on_err (Err e) p = p

pub on_both : {A E Q : Type 0} (P : Type 0) (r : Result A E) → IfOk r (λ _. P) → Q → OnOk r (P × Q)
on_both P (Ok a) p q = (p, q)
on_both P (Err e) p q = tt

-- the same of the folder's own path
pub found_ok : {A E : Type 0} (r : Result A E) (path folder : List ℕ) (held : Held) (deleted : Deleted) (seen : Looked) (a b : Option (List ℕ)) → path ≡ folder
    → OnOk r ((why_refused no_consent seen.surveyed ≡ None) × Appends a b (report_text path held deleted seen))
    → OnOk r ((found : Looked) × (why_refused no_consent found.surveyed ≡ None) × Appends a b (report_text folder held deleted found))
found_ok (Ok u) path folder held deleted seen a b e p = (seen, p.0, subst (λ at. Appends a b (report_text at held deleted seen)) e p.1)
found_ok (Err u) path folder held deleted seen a b e p = tt

pub found_err : {A E : Type 0} (r : Result A E) (path folder : List ℕ) (held : Held) (deleted : Deleted) (a b : Option (List ℕ)) → path ≡ folder
    → OnErr r (SomeFront path held deleted a b) → OnErr r (SomeFront folder held deleted a b)
found_err (Ok u) path folder held deleted a b e p = tt
found_err (Err u) path folder held deleted a b e p = subst (λ at. SomeFront at held deleted a b) e p
