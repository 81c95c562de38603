-- Whose the request is that stands in front of a bound connection: its tenant's, or a matter of the connection alone.
use Rattle.std.specs.Prelude.{◌≡◌, ℕ, ℤ, List, Bool, true, false, Option, Some, None}
use Rattle.kb_api_group.specs.Frames.{Front, Whole, Partial, TooSmall, TooLarge}
use Rattle.kb_tenant_api.specs.Hosted.{Kept}
use Rattle.kb_api_group.specs.declared.api_versions.ApiVersion.{ApiVersion}
use Rattle.kb_isolation_spec.specs.declared.head.Head.{Head}
use Rattle.kb_isolation_spec.specs.Requests.{Asked, Versions, OtherVersions, Handshake, Authenticate, Another, Malformed, request}
use Rattle.kb_isolation_spec.specs.Session.{Session, in_front}
use Rattle.kb_isolation_spec.specs.Versions.{no_head}
use Rattle.kb_isolation_spec.specs.Tenant.{reaction_to, kept_after}
use Rattle.kb_isolation_spec.specs.Greeting.{Setup, for_tenant, node_of}
use Rattle.kb_isolation_spec.specs.Machine.{after_reaction, after_turn, kept_by_turn}
use Rattle.kb_connection.specs.View.{without_front}

abbrev pub is_tenants : Asked → Bool
is_tenants Versions = false
is_tenants OtherVersions = false
is_tenants (Handshake version mechanism) = false
is_tenants (Authenticate message) = false
is_tenants (Another key version body) = true
is_tenants Malformed = false

abbrev pub is_tenants_at : List ApiVersion → Front → Bool
is_tenants_at versions (Whole frame rest) = is_tenants (request versions frame).asked
is_tenants_at versions Partial = false
is_tenants_at versions TooSmall = false
is_tenants_at versions TooLarge = false

-- a request of the tenant: what is kept of it for its reply, its key, the version that the tenant is asked in, and its body
abbrev pub asked_under : Head → Asked → Option (Head × ℤ × ℤ × List ℕ)
asked_under head Versions = None
asked_under head OtherVersions = None
asked_under head (Handshake version mechanism) = None
asked_under head (Authenticate message) = None
asked_under head (Another key version body) = Some (head, key, version, body)
asked_under head Malformed = None

-- the request of the tenant that stands in front
abbrev pub asked_at : List ApiVersion → Front → Option (Head × ℤ × ℤ × List ℕ)
asked_at versions (Whole frame rest) = let r = request versions frame in asked_under r.head r.asked
asked_at versions Partial = None
asked_at versions TooSmall = None
asked_at versions TooLarge = None

-- what of the request in front is kept for its reply
abbrev pub head_at : List ApiVersion → Front → Head
head_at versions (Whole frame rest) = (request versions frame).head
head_at versions Partial = no_head
head_at versions TooSmall = no_head
head_at versions TooLarge = no_head

-- no request of the tenant stands in front: what any tenant keeps stays
pub record IsOwn (setup : Setup) (s : Session) : Type 0 where
  pub own : is_tenants_at setup.versions (in_front s) ≡ false
  pub put : (tenant : ℕ) (kept : Kept) (clock n : ℕ) → kept_by_turn (for_tenant setup tenant) kept clock n (in_front s) ≡ kept

-- this request of the tenant stands in front, whichever tenant it is
pub record IsAsked (setup : Setup) (s : Session) (key version : ℤ) (head : Head) (body : List ℕ) : Type 0 where
  pub tenants : is_tenants_at setup.versions (in_front s) ≡ true
  pub asked : asked_at setup.versions (in_front s) ≡ Some (head, key, version, body)
  pub served : (tenant : ℕ) (kept : Kept) (clock n : ℕ) → after_turn (for_tenant setup tenant) kept clock n s
      ≡ after_reaction (reaction_to (node_of setup tenant) kept clock n key version body) head (without_front s)
  pub put : (tenant : ℕ) (kept : Kept) (clock n : ℕ)
      → kept_by_turn (for_tenant setup tenant) kept clock n (in_front s) ≡ kept_after (node_of setup tenant) kept clock n key version body
