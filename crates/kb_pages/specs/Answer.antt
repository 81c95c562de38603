-- What the pages are.
use Rattle.std.specs.Prelude.{◌≡◌, ◌⊎◌, ℕ, List, [], ◌∷◌, codes, Option, None, Some, option_map}
use Rattle.http_header.specs.FieldValue.{FieldValue}
use Rattle.http_header.specs.HeaderMap.{get}
use Rattle.http_uri.specs.Uri.{uri_path, uri_query}
use Rattle.http1.specs.Fields.{Header}
use Rattle.http.specs.Request.{head_of}
use Rattle.http.specs.declared.request.Request.{Request}
use Rattle.http_server.specs.Response.{IsResponse}
use Rattle.http_server.specs.declared.response.Response.{Response}
use Rattle.kb_pages.specs.Route.{named_in, page_for}
use Rattle.kb_pages.specs.declared.route.Page.{Page}
use Rattle.kb_pages.specs.declared.site.Form.{Form}
use Rattle.kb_pages.specs.declared.site.Form.TheVariants as forms
use Rattle.kb_pages.specs.declared.route.Page.TheVariants.{Health, Ready, Metrics, Partitions, Status, Tenant, Unauthorized, NotFound, NotAllowed}

-- 1. Fields

abbrev pub close_field : Header
close_field = (codes "connection", codes "close")

abbrev pub text_field : Header
text_field = (codes "content-type", codes "text/plain; version=0.0.4; charset=utf-8")

abbrev pub html_field : Header
html_field = (codes "content-type", codes "text/html; charset=utf-8")

-- nothing is loaded but what stands on the page, and no script runs
abbrev pub policy_field : Header
policy_field = (codes "content-security-policy", codes "default-src 'none'; style-src 'unsafe-inline'")

abbrev pub token_field : Header
token_field = (codes "www-authenticate", codes "Bearer")

abbrev pub allow_field : Header
allow_field = (codes "allow", codes "GET")

-- 2. Pages

-- a page of this status and this text, behind which the connection is closed
abbrev pub IsText : ℕ → List ℕ → Response → Type 0
IsText status text r = IsResponse status (close_field ∷ text_field ∷ []) text r

-- the same with one more field
abbrev pub IsTextWith : ℕ → Header → List ℕ → Response → Type 0
IsTextWith status field text r = IsResponse status (close_field ∷ text_field ∷ field ∷ []) text r

abbrev pub IsHtml : List ℕ → Response → Type 0
IsHtml text r = IsResponse 200 (close_field ∷ html_field ∷ policy_field ∷ []) text r

-- memory was refused for a page
abbrev pub IsNoMemory : Response → Type 0
IsNoMemory r = IsText 503 (codes "out of memory\n") r

-- of the causes why the broker is not ready: a line for each, or `ready` where there is none
abbrev pub IsReadinessOf : List ℕ → Response → Type 0
IsReadinessOf [] r = IsText 200 (codes "ready\n") r
IsReadinessOf (c ∷ causes) r = IsText 503 (c ∷ causes) r

-- whether the broker is ready, or that memory was refused for that
abbrev pub IsReadiness : (List ℕ → Type 0) → Response → Type 0
IsReadiness are_causes r = ((causes : List ℕ) × are_causes causes × IsReadinessOf causes r) ⊎ IsNoMemory r

-- a page of such a text, in such a form, or that memory was refused for it
abbrev pub IsPageOrNoMemory : (List ℕ → Response → Type 0) → (List ℕ → Type 0) → Response → Type 0
IsPageOrNoMemory Form is_text r = ((text : List ℕ) × is_text text × Form text r) ⊎ IsNoMemory r

-- the page of a tenant; or that there is no tenant of that name; or that memory was refused
abbrev pub IsOfTenant : (List ℕ → Response → Type 0) → (List ℕ → Type 0) → Type 0 → Response → Type 0
IsOfTenant Form is_text unknown r = IsPageOrNoMemory Form is_text r ⊎ (unknown × IsText 404 (codes "no such tenant\n") r)

-- 3. Answers

-- what a source says of itself, and of the tenant of a name
pub record Told : Type 1 where
  pub metrics : List ℕ → Type 0
  pub causes : List ℕ → Type 0
  pub status : List ℕ → Type 0
  pub partitions : List ℕ → List ℕ → Type 0
  pub tenant : List ℕ → List ℕ → Type 0
  pub is_unknown : List ℕ → Type 0

-- what is told of all in a form
abbrev pub all_told : Told → Form → List ℕ → Type 0
all_told t forms.Metrics = t.metrics
all_told t forms.Status = t.status

-- what is told of a tenant in a form
abbrev pub tenant_told : Told → Form → List ℕ → List ℕ → Type 0
tenant_told t forms.Metrics = t.partitions
tenant_told t forms.Status = t.tenant

-- a page in a form
abbrev pub InForm : Form → List ℕ → Response → Type 0
InForm forms.Metrics = IsText 200
InForm forms.Status = IsHtml

-- what a page is, of the tenant of that name
abbrev pub IsPage : Told → List ℕ → Page → Response → Type 0
IsPage t name Health r = IsText 200 (codes "ok\n") r
IsPage t name Ready r = IsReadiness t.causes r
IsPage t name Metrics r = IsPageOrNoMemory (IsText 200) t.metrics r
IsPage t name Partitions r = IsOfTenant (IsText 200) (t.partitions name) (t.is_unknown name) r
IsPage t name Status r = IsPageOrNoMemory IsHtml t.status r
IsPage t name Tenant r = IsOfTenant IsHtml (t.tenant name) (t.is_unknown name) r
IsPage t name Unauthorized r = IsTextWith 401 token_field (codes "the token is missing or wrong\n") r
IsPage t name NotFound r = IsText 404 (codes "no such page\n") r
IsPage t name NotAllowed r = IsTextWith 405 allow_field (codes "only GET\n") r

-- a request's field `authorization`, the first of them
abbrev pub authorization_of : {X : Type 0} → Request X → Option (List ℕ)
authorization_of request = option_map (λ (v : FieldValue). v.bytes) (get (head_of request).headers (codes "authorization"))

-- the page that a request gets, where that field is asked for
abbrev pub page_of : {X : Type 0} → Option (List ℕ) → Request X → Page
page_of asked request = page_for asked (authorization_of request) (head_of request).method (uri_path (head_of request).uri)
    (uri_query (head_of request).uri)

-- what answers a request
abbrev pub IsResponseTo : {X : Type 0} → Told → Option (List ℕ) → Request X → Response → Type 0
IsResponseTo told asked request response = IsPage told (named_in (uri_query (head_of request).uri)) (page_of asked request) response
