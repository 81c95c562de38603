-- The status page, and the page of a tenant.
use Rattle.std.specs.Prelude.{ℕ, ℤ, ◌^◌, ◌-◌, List, [], ◌∷◌, ◌++◌, length, min, codes, Option, None, Some, slice_get}
use Rattle.std.specs.Option.{option_map}
use Rattle.std.specs.List.{flat_map, range_with_len, sum_by}
use Rattle.kb_metrics.specs.Markup.{cell, cell_or, fact_text, line_text, link_cell, marked, name_cell, plot_cell, signed_cell, tag_text}
use Rattle.kb_metrics.specs.Rates.{History}
use Rattle.kb_metrics.specs.Rows.{Group, Lag, Partition, Tenant}
use Rattle.kb_metrics.specs.declared.markup.Tag.TheVariants as tags
use Rattle.kb_metrics.specs.declared.server.Closed.{Closed}
use Rattle.kb_metrics.specs.declared.server.ProcessGauges.{ProcessGauges}
use Rattle.kb_metrics.specs.declared.server.ServerGauges.{ServerGauges}
use Rattle.kb_metrics.specs.declared.status.Piece.{Piece}
use Rattle.kb_metrics.specs.declared.status.Piece.TheVariants as pieces
use Rattle.kb_metrics.specs.declared.text.Value.{Value}
use Rattle.kb_metrics.specs.declared.text.Value.TheVariants.{Whole, Thousandths, Millionths}

-- ---- what is on each page

unfoldable pub piece_text : Piece → List ℕ
piece_text pieces.Head =
    codes "<!DOCTYPE html>\n<html lang=\"en\"><head><meta charset=\"utf-8\">"
    ++ codes "<meta http-equiv=\"refresh\" content=\"5\">"
    ++ codes "<meta name=\"viewport\" content=\"width=device-width\"><title>kbroker</title>"
    ++ codes "<style>body{font:14px sans-serif;margin:1em}table{border-collapse:collapse;margin:0 0 1.5em}"
    ++ codes "th,td{text-align:left;padding:2px 8px;border-bottom:1px solid #999}"
    ++ codes "svg{width:120px;height:26px;vertical-align:bottom}polyline{fill:none;stroke:currentColor}"
    ++ codes "@media(max-width:700px){.w,.w tbody,.w tr,.w td{display:block}"
    ++ codes ".w tr{border-bottom:2px solid #999}.w th{display:none}.w td{border:0}"
    ++ codes ".w td::before{content:attr(data-l) \": \"}}</style></head><body><h1><a href=\"/\">kbroker</a>"
    ++ codes "</h1>\n<table>\n"
piece_text pieces.Tenants =
    codes "</table>\n<h2>Tenants</h2>\n<table class=\"w\">\n<tr><th>Tenant</th><th>Connections</th>"
    ++ codes "<th>Waiting</th><th>Topics</th><th>Partitions</th><th>Groups</th><th>Lag</th><th>Refusals</th>"
    ++ codes "<th>Stored bytes</th><th>Stored bytes, at most</th>"
    ++ codes "<th>Bytes in</th><th>Bytes out</th><th>In a second</th><th>Out a second</th></tr>\n"
piece_text pieces.Partitions =
    codes "</table>\n<h2>Partitions</h2>\n<table class=\"w\">\n<tr><th>Topic</th><th>Partition</th>"
    ++ codes "<th>Start</th><th>End</th></tr>\n"
piece_text pieces.Groups =
    codes "</table>\n<h2>Groups</h2>\n<table class=\"w\">\n<tr><th>Group</th><th>Members</th>"
    ++ codes "<th>Generation</th></tr>\n"
piece_text pieces.Lags = codes "</table>\n<h2>Lag</h2>\n<table class=\"w\">\n<tr><th>Group</th><th>Topic</th><th>Lag</th></tr>\n"
piece_text pieces.End = codes "</table>\n</body></html>\n"

-- ---- the status page

abbrev pub whole : ℕ → Option Value
whole n = Some (Whole n)

unfoldable pub process_facts : ProcessGauges → List (List ℕ × Option Value)
process_facts p =
    (codes "Memory, bytes", option_map Whole p.resident_bytes) ∷ (codes "Open files", option_map Whole p.open_fds)
    ∷ (codes "Files, at most", option_map Whole p.max_fds) ∷ (codes "Processor time, seconds", option_map Thousandths p.cpu_millis) ∷ []

unfoldable pub socket_facts : ServerGauges → List (List ℕ × Option Value)
socket_facts s =
    (codes "Sockets", whole s.sockets) ∷ (codes "Sockets, at most", whole s.sockets_limit) ∷ (codes "Sockets without a login", whole s.strangers)
    ∷ (codes "Sockets accepted", whole s.accepted) ∷ (codes "Bytes read", whole s.read_bytes) ∷ (codes "Bytes written", whole s.written_bytes)
    ∷ (codes "Longest turn, seconds", Some (Millionths s.turn_micros_max)) ∷ []

unfoldable pub trouble_facts : ServerGauges → List (List ℕ × Option Value)
trouble_facts s =
    (codes "Logins failed", whole s.logins_failed) ∷ (codes "Refusals before login", whole s.refusals_before_login)
    ∷ (codes "Calls that the store refused", whole s.store_failures) ∷ (codes "Files of no log", option_map Whole s.stray_files) ∷ []

unfoldable pub closed_facts : Closed → List (List ℕ × Option Value)
closed_facts c =
    (codes "Closed: no place", whole c.no_place) ∷ (codes "Closed: no login", whole c.no_login)
    ∷ (codes "Closed: unread reply", whole c.unread_reply) ∷ (codes "Closed: idle", whole c.idle)
    ∷ (codes "Closed: slow request", whole c.slow_request) ∷ (codes "Closed: limit", whole c.limit) ∷ []

-- how far groups are behind together, as far as 64 bits go
abbrev pub lag_sum : List Lag → ℕ
lag_sum ls = min (sum_by (λ l. l.value) ls) (2 ^ 64 - 1)

unfoldable pub tenant_cells : Tenant → List (List ℕ × ℕ)
tenant_cells t =
    (codes "Connections", t.connections) ∷ (codes "Waiting", t.waiting) ∷ (codes "Topics", t.topics) ∷ (codes "Partitions", t.partitions)
    ∷ (codes "Groups", length t.groups) ∷ (codes "Lag", lag_sum t.lags) ∷ (codes "Refusals", t.refusals) ∷ []

-- the bytes of its batches, and how many it may have
unfoldable pub stored_cells : Tenant → List ℕ
stored_cells t =
    cell_or (codes "Stored bytes") (codes "not known") t.stored
    ++ cell_or (codes "Stored bytes, at most") (codes "no limit") t.limits.bytes

unfoldable pub traffic_cells : Tenant → List (List ℕ × ℕ)
traffic_cells t = (codes "Bytes in", t.request_bytes) ∷ (codes "Bytes out", t.response_bytes) ∷ []

-- the bytes of a second, in and out
unfoldable pub both_plots : History → List ℕ
both_plots h = plot_cell (codes "In a second") h.requests.samples ++ plot_cell (codes "Out a second") h.responses.samples

abbrev pub plots_text : Option History → List ℕ
plots_text None = []
plots_text (Some h) = both_plots h

-- a tenant's row
unfoldable pub tenant_text : Tenant → Option History → List ℕ
tenant_text t h =
    tag_text tags.Row ++ link_cell (codes "Tenant") t.name ++ flat_map cell (tenant_cells t) ++ stored_cells t
    ++ flat_map cell (traffic_cells t) ++ plots_text h ++ tag_text tags.RowEnd

abbrev pub row_text : Option Tenant → Option History → List ℕ
row_text None h = []
row_text (Some t) h = tenant_text t h

-- the row of the tenant at a place, with the rates at the same place
abbrev pub row_at : List Tenant → List History → ℕ → List ℕ
row_at ts hs place = row_text (slice_get ts place) (slice_get hs place)

unfoldable pub rows_text : List Tenant → List History → List ℕ
rows_text ts hs = flat_map (row_at ts hs) (range_with_len 0 (length ts))

-- when the broker began to serve, and which version it is
unfoldable pub begin_text : ProcessGauges → List ℕ
begin_text p = line_text (codes "Up since") (marked p.start_text.now) ++ line_text (codes "Version") (marked p.version.now)

unfoldable pub facts_text : ServerGauges → ProcessGauges → List ℕ
facts_text s p =
    flat_map fact_text (process_facts p) ++ flat_map fact_text (socket_facts s) ++ flat_map fact_text (trouble_facts s)
    ++ flat_map fact_text (closed_facts s.closed)

abbrev pub status_text : ServerGauges → ProcessGauges → List Tenant → List History → List ℕ
status_text s p ts hs =
    piece_text pieces.Head ++ begin_text p ++ facts_text s p ++ piece_text pieces.Tenants ++ rows_text ts hs ++ piece_text pieces.End

-- ---- the page of a tenant

unfoldable pub place_cells : List ℕ → ℕ → List ℕ
place_cells topic number = name_cell (codes "Topic") topic ++ cell (codes "Partition", number)

unfoldable pub offset_cells : ℤ → ℤ → List ℕ
offset_cells start end = signed_cell (codes "Start") start ++ signed_cell (codes "End") end

unfoldable pub partition_line : Partition → List ℕ
partition_line p =
    tag_text tags.Row ++ place_cells p.topic p.number ++ offset_cells p.start p.end ++ tag_text tags.RowEnd

unfoldable pub group_line : Group → List ℕ
group_line g =
    tag_text tags.Row ++ name_cell (codes "Group") g.id ++ cell (codes "Members", g.members) ++ signed_cell (codes "Generation") g.generation
    ++ tag_text tags.RowEnd

unfoldable pub lag_line : Lag → List ℕ
lag_line l =
    tag_text tags.Row ++ name_cell (codes "Group") l.group ++ name_cell (codes "Topic") l.topic ++ cell (codes "Lag", l.value) ++ tag_text tags.RowEnd

unfoldable pub title_text : List ℕ → List ℕ
title_text name = line_text (codes "Tenant") (marked name)

abbrev pub tenant_page : Tenant → List Partition → List ℕ
tenant_page t ps =
    piece_text pieces.Head ++ title_text t.name ++ piece_text pieces.Partitions ++ flat_map partition_line ps
    ++ piece_text pieces.Groups ++ flat_map group_line t.groups ++ piece_text pieces.Lags ++ flat_map lag_line t.lags
    ++ piece_text pieces.End
