-- What each page is. What is observed of tenants leaves out the bytes of their batches: a page tells them as they are.
use Rattle.std.specs.Prelude.{◌≡◌, ◌++◌, ℕ, List, map, Option, Some}
use Rattle.std.specs.List.{find}
use Rattle.std.specs.Str.{bytes_eq}
use Rattle.kb_metrics.specs.Gauges.{Observed, partitions, partitions_text, shown_tenant, tenants_text}
use Rattle.kb_metrics.specs.Rates.{History}
use Rattle.kb_metrics.specs.Server.{process_text, server_text}
use Rattle.kb_metrics.specs.Status.{status_text, tenant_page}
use Rattle.kb_metrics.specs.declared.server.ProcessGauges.{ProcessGauges}
use Rattle.kb_metrics.specs.declared.server.ServerGauges.{ServerGauges}
use Rattle.kb_pages.specs.declared.site.Form.{Form}
use Rattle.kb_pages.specs.declared.site.Form.TheVariants as forms
use Rattle.kbroker.specs.Observed.{unstored}

-- the page of metrics of these tenants, of that server, and of a process such as this
abbrev pub IsMetrics : List Observed → ServerGauges → (ProcessGauges → Type 0) → List ℕ → Type 0
IsMetrics seen server IsThis text =
    (os : List Observed) × (process : ProcessGauges) × (map unstored os ≡ seen) × IsThis process
    × (text ≡ tenants_text os ++ server_text server ++ process_text process)

-- the status page of the same, with the rates of each tenant
abbrev pub IsStatus : List Observed → ServerGauges → (ProcessGauges → Type 0) → List History → List ℕ → Type 0
IsStatus seen server IsThis rates text =
    (os : List Observed) × (process : ProcessGauges) × (map unstored os ≡ seen) × IsThis process
    × (text ≡ status_text server process (map shown_tenant os) rates)

-- the first of a name
abbrev pub first_named : List ℕ → List Observed → Option Observed
first_named name os = find (λ o. bytes_eq o.name name) os

-- a page of the tenant of a name
abbrev pub IsPageOf : (Observed → List ℕ) → List Observed → List ℕ → List ℕ → Type 0
IsPageOf page seen name text = (o : Observed) × (first_named name seen ≡ Some (unstored o)) × (text ≡ page o)

-- the page of a tenant for a browser
abbrev pub page_of : Observed → List ℕ
page_of o = tenant_page (shown_tenant o) (partitions o.world)

abbrev pub page_in : Form → Observed → List ℕ
page_in forms.Metrics = partitions_text
page_in forms.Status = page_of
