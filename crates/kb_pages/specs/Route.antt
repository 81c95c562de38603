-- Which page a request gets.
use Rattle.std.specs.Prelude.{ℕ, List, [], ◌++◌, ◌&&◌, codes, drop, length, nat_le, take, Bool, true, false, not, if◌then◌else◌, Option, None, Some}
use Rattle.std.specs.Str.{bytes_eq}
use Rattle.percent_encoding.specs.Percent.{percent_decode}
use Rattle.kb_pages.specs.declared.route.Page.{Page}
use Rattle.kb_pages.specs.declared.route.Page.TheVariants.{Health, Ready, Metrics, Partitions, Status, Tenant, Unauthorized, NotFound, NotAllowed}

-- what a request with a token has in its field `authorization`
abbrev pub authorization : List ℕ → List ℕ
authorization token = codes "Bearer " ++ token

-- whether the field that is asked for, if one is, is given
abbrev pub may_see : Option (List ℕ) → Option (List ℕ) → Bool
may_see None given = true
may_see (Some asked) None = false
may_see (Some asked) (Some given) = bytes_eq asked given

abbrev pub only_get : List ℕ → Page → Page
only_get method page = if bytes_eq method (codes "GET") then page else NotAllowed

-- a page that is there is asked for by GET
abbrev pub by_get : List ℕ → Page → Page
by_get method NotFound = NotFound
by_get method page = only_get method page

-- a query names a tenant: `tenant=NAME`
abbrev pub is_named : List ℕ → Bool
is_named query = nat_le 7 (length query) && bytes_eq (take 7 query) (codes "tenant=")

-- a page without a query, or that of a tenant where the query names one
abbrev pub named_page : Option (List ℕ) → Page → Page → Page
named_page None page other = page
named_page (Some query) page other = if is_named query then other else NotFound

-- the name in a query that names a tenant, percent-decoded
abbrev pub named_in : Option (List ℕ) → List ℕ
named_in None = []
named_in (Some query) = if is_named query then percent_decode (drop 7 query) else []

-- the page of a path and a query
abbrev pub page_at : List ℕ → Option (List ℕ) → Page
page_at path query =
    if bytes_eq path (codes "/readyz") then Ready
    else if bytes_eq path (codes "/metrics") then Metrics
    else if bytes_eq path (codes "/metrics/partitions") then named_page query NotFound Partitions
    else if bytes_eq path (codes "/") then named_page query Status Tenant
    else NotFound

-- each page but the first wants the field
abbrev pub page_for : Option (List ℕ) → Option (List ℕ) → List ℕ → List ℕ → Option (List ℕ) → Page
page_for asked given method path query =
    if bytes_eq path (codes "/healthz") then only_get method Health
    else if not (may_see asked given) then Unauthorized
    else by_get method (page_at path query)
