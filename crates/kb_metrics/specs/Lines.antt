-- Whose the lines of a page of metrics are.
use Rattle.std.specs.Prelude.{ℕ, List, [], ◌∷◌, ◌++◌, Bool, ◌==◌, filter, nat_eq}
use Rattle.std.specs.List.{after_first, flat_map, slice_split, starts_with}
use Rattle.std.specs.Str.{bytes_eq}
use Rattle.kb_metrics.specs.Families.{all_families, said_of, tenant_label}
use Rattle.kb_metrics.specs.Gauges.{Observed, tenants_text}
use Rattle.kb_metrics.specs.Rows.{Tenant}
use Rattle.kb_metrics.specs.Server.{process_text, server_text}
use Rattle.kb_metrics.specs.Text.{label_text}
use Rattle.kb_metrics.specs.declared.server.ProcessGauges.{ProcessGauges}
use Rattle.kb_metrics.specs.declared.server.ServerGauges.{ServerGauges}

-- the page of metrics: what is said of tenants, of the server, and of its process
abbrev pub metrics_text : List Observed → ServerGauges → ProcessGauges → List ℕ
metrics_text os s p = tenants_text os ++ server_text s ++ process_text p

abbrev pub is_line_feed : ℕ → Bool
is_line_feed b = b == 10

-- a brace stands in front of labels
abbrev pub is_brace : ℕ → Bool
is_brace b = b == 123

-- whether the first label of a line is that of the tenant of a name
abbrev pub is_line_of : List ℕ → List ℕ → Bool
is_line_of name line = starts_with nat_eq (after_first is_brace line) (label_text (tenant_label name))

-- the lines of a text with the label of the tenant of a name, each without its line feed
unfoldable pub lines_of : List ℕ → List ℕ → List (List ℕ)
lines_of name text = filter (is_line_of name) (slice_split is_line_feed text)

-- each with its line feed
abbrev pub text_of_lines : List (List ℕ) → List ℕ
text_of_lines lines = flat_map (λ line. line ++ 10 ∷ []) lines

-- those of a name
abbrev pub observed_named : List ℕ → List Observed → List Observed
observed_named name os = filter (λ o. bytes_eq o.name name) os

-- what the families say of tenants, a family after another, without what stands in front of each family
abbrev pub said_of_all : List Tenant → List ℕ
said_of_all ts = flat_map (λ family. flat_map (said_of family) ts) all_families
