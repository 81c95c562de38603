-- What is told on a page.
use Rattle.std.proofs.Common.{◌≡◌, ◌∙◌, ◌++◌, ℕ, List, [], map, Some, None, sym, ap}
use Rattle.std.specs.Prelude.{Result, Ok, Err, OnOk}
use Rattle.kb_store.specs.Disk.{Files}
use Rattle.kb_log.specs.OnShelf.{Log}
use Rattle.kb_metrics.specs.Gauges.{Observed, partitions_text}
use Rattle.kb_metrics.specs.View.{observed}
use Rattle.kb_metrics.specs.declared.gauges.TenantGauges.{TenantGauges}
use Rattle.kb_pages.specs.Answer.{Told, tenant_told}
use Rattle.kb_pages.specs.declared.site.Form.{Form}
use Rattle.kb_pages.specs.declared.site.Form.TheVariants as forms
use Rattle.kbroker.specs.Observed.{observed_unstored}
use Rattle.kbroker.specs.Pages.{IsPageOf, first_named, page_in, page_of}

pub on_ok : {T E : Type 0} (P Q : Type 0) → (P → Q) → (r : Result T E) → OnOk r P → OnOk r Q
on_ok P Q f (Ok x) p = f p
on_ok P Q f (Err e) p = tt

-- three texts, one behind the other
pub behind_each_other : (o t s p a b d : List ℕ) → a ≡ o ++ t → b ≡ a ++ s → d ≡ b ++ p → d ≡ o ++ t ++ s ++ p
behind_each_other o t s p a b d first second third =
    third ∙ ap (λ x. x ++ p) second ∙ ap (λ x. (x ++ s) ++ p) first

-- what is said of each tenant that is seen
abbrev pub told_of : List Observed → Told
told_of seen = record {
  metrics = λ text. Unit {0};
  causes = λ text. Unit {0};
  status = λ text. Unit {0};
  partitions = IsPageOf partitions_text seen;
  tenant = IsPageOf page_of seen;
  is_unknown = λ name. first_named name seen ≡ None;
}

in_form : (form : Form) (seen : List Observed) (name text : List ℕ) → IsPageOf (page_in form) seen name text
    → tenant_told (told_of seen) form name text
in_form forms.Metrics seen name text h = h
in_form forms.Status seen name text h = h

-- the page of a tenant that was found, written behind nothing
pub page_told : {L : Type 0} (log : L → Log) (files : Files) (form : Form) (seen : List Observed)
    (tenants : List (TenantGauges L)) (t : TenantGauges L) (name old new : List ℕ) → map (observed_unstored log files) tenants ≡ seen
    → Some (observed_unstored log files t) ≡ first_named name (map (observed_unstored log files) tenants) → old ≡ [] → new ≡ old ++ page_in form (observed log files t)
    → tenant_told (told_of seen) form name new
page_told log files form seen tenants t name old new all found none said =
    in_form form seen name new (
      observed log files t,
      ap (first_named name) (sym all) ∙ sym found,
      said ∙ ap (λ o. o ++ page_in form (observed log files t)) none,
    )

pub is_unknown : {L : Type 0} (log : L → Log) (files : Files) (seen : List Observed) (tenants : List (TenantGauges L)) (name : List ℕ)
    → map (observed_unstored log files) tenants ≡ seen → None ≡ first_named name (map (observed_unstored log files) tenants) → first_named name seen ≡ None
is_unknown log files seen tenants name all missing = ap (first_named name) (sym all) ∙ sym missing
