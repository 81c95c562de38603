-- The requests that need no tenant: ApiVersions, and the SASL greeting (Kafka protocol guide, "SASL Authentication Sequence"; RFC 4616).
use Rattle.std.specs.Prelude.{ℕ, suc, ℤ, pos, List, [], ◌∷◌, ◌++◌, get_or, Bool, true, false, ◌&&◌, int_le, if◌then◌else◌, Option, Some, None, codes}
use Rattle.std.specs.Prelude.{Result, Ok, Err}
use Rattle.std.specs.Ordering.{int_eq}
use Rattle.std.specs.Str.{bytes_eq}
use Rattle.kb_api_group.specs.Plain.{plain}
use Rattle.kb_api_group.specs.Frames.{Front, Whole, Partial, TooSmall, TooLarge}
use Rattle.kb_api_group.specs.Layouts.{sasl_handshake_reply, sasl_authenticate_reply, api_versions_reply}
use Rattle.kb_wire.specs.Codec.{int32}
use Rattle.kb_wire.specs.ErrorCode.{code_of}
use Rattle.kb_wire.specs.declared.error_code.ErrorCode.{ErrorCode}
use Rattle.kb_wire.specs.declared.error_code.ErrorCode.TheVariants as errors
use Rattle.kb_api_group.specs.declared.plain.PlainLogin.{PlainLogin}
use Rattle.kb_api_group.specs.declared.api_versions.ApiVersion.{ApiVersion}
use Rattle.kb_tenant.specs.declared.node.Node.{Node}
use Rattle.kb_isolation_spec.specs.declared.head.Head.{Head}
use Rattle.kb_isolation_spec.specs.declared.login.Known.{Known}
use Rattle.kb_isolation_spec.specs.declared.login.Login.TheVariants as logins
use Rattle.kb_isolation_spec.specs.declared.shut.Shut.TheVariants as causes
use Rattle.kb_isolation_spec.specs.Names.{kept_name}
use Rattle.kb_isolation_spec.specs.Requests.{Asked, Versions, OtherVersions, Handshake, Authenticate, Another, Malformed, request, unserved}
use Rattle.kb_isolation_spec.specs.Session.{Greeting, Unshaken, Shaken, Bare, Greets, BoundTo, Session, shut_down, replied, in_front}

-- a user: the name and password of its login, and its tenant
pub record User : Type 0 where
  pub name : List ℕ
  pub password : List ℕ
  pub tenant : ℕ

-- what is fixed while a broker runs: the versions that it lists, its users, and by a tenant's place where its clients are told to connect
-- to and what it may have; the same where no tenant has that place; and the greatest size of a request that is read on a connection
pub record Setup : Type 0 where
  pub versions : List ApiVersion
  pub users : List User
  pub nodes : List Node
  pub node : Node
  pub request_bytes : ℕ

-- where a tenant's clients are told to connect to, and what it may have
abbrev pub node_of : Setup → ℕ → Node
node_of setup tenant = get_or setup.nodes tenant setup.node

-- the same for a request of a tenant: its node is the only one
abbrev pub for_tenant : Setup → ℕ → Setup
for_tenant setup tenant = record setup { nodes = []; node = node_of setup tenant }

-- the first user of that name and password, with its place, where the first of these users has that place
abbrev pub known_from : ℕ → List User → List ℕ → List ℕ → Option Known
known_from place [] name password = None
known_from place (u ∷ us) name password =
    if bytes_eq u.name name && bytes_eq u.password password then Some (record { user = place; tenant = u.tenant })
    else known_from (suc place) us name password

abbrev pub known_or : List ℕ → Option Known → Result Known (List ℕ)
known_or name None = Err (kept_name name)
known_or name (Some known) = Ok known

abbrev pub login_by : List User → Option PlainLogin → Result Known (List ℕ)
login_by users None = Err []
login_by users (Some p) = known_or p.authcid (known_from 0 users p.authcid p.passwd)

-- the user that a PLAIN message names with its password, or else the name in it, as much of it as is kept
unfoldable pub login : List User → List ℕ → Result Known (List ℕ)
login users message = login_by users (plain message)

-- 1. The replies

-- ApiVersions: a code and the whole table
abbrev pub versions_reply : List ApiVersion → ErrorCode → List ℕ
versions_reply versions code = api_versions_reply.written (record { error_code = code_of code; versions = versions })

-- From version 1 on a throttle time of 0 milliseconds stands behind them.
abbrev pub throttle_behind : ℤ → List ℕ
throttle_behind version = if int_le (pos 1) version then int32.written (pos 0) else []

-- the same without a fault, in a version that is listed
abbrev pub versions_in : ℤ → List ApiVersion → List ℕ
versions_in version versions = versions_reply versions errors.None ++ throttle_behind version

-- SaslHandshake: a code and the mechanisms, PLAIN alone
abbrev pub handshake_reply : ErrorCode → List ℕ
handshake_reply code = sasl_handshake_reply.written (record { error_code = code_of code; mechanisms = codes "PLAIN" ∷ [] })

-- SaslAuthenticate: a code, and a text where it is not 0
abbrev pub authenticate_reply : ErrorCode → Option (List ℕ) → List ℕ
authenticate_reply code text = sasl_authenticate_reply.written (record { error_code = code_of code; error_message = text; auth_bytes = [] })

-- SaslAuthenticate where no mechanism was accepted, or after authentication
abbrev pub illegal_state : List ℕ
illegal_state = authenticate_reply errors.IllegalSaslState (Some (codes "illegal SASL state"))

-- to a bare message of PLAIN that is right: a frame of no bytes, which is a size of 0
abbrev pub empty_frame : List ℕ
empty_frame = 0 ∷ 0 ∷ 0 ∷ 0 ∷ []

-- 2. Before authentication

-- a connection on which that user logged in
abbrev pub bound : Known → Session → Session
bound known s = record s { stage = BoundTo known.tenant None; login = logins.User known.user }

-- a connection on which a login of that name failed
abbrev pub failed : List ℕ → Session → Session
failed name s = record s { login = logins.Failed name }

-- SaslAuthenticate where the login failed
abbrev pub failed_reply : List ℕ
failed_reply = authenticate_reply errors.SaslAuthenticationFailed (Some (codes "authentication failed"))

-- a login that names a user with its password binds the connection, any other shuts it after the reply
abbrev pub logged_in : Result Known (List ℕ) → Head → Session → Session
logged_in (Ok known) head s = replied head (authenticate_reply errors.None None) (bound known s)
logged_in (Err name) head s = shut_down causes.Denied (replied head failed_reply (failed name s))

-- how far the greeting is after a handshake of that version which accepted PLAIN
abbrev pub greeting_after : ℤ → Greeting
greeting_after version = if int_eq version (pos 0) then Bare else Shaken

-- the mechanism PLAIN is accepted, another changes nothing
abbrev pub shaken : Bool → Head → ℤ → Session → Session
shaken true head version s = replied head (handshake_reply errors.None) (record s { stage = Greets (greeting_after version) })
shaken false head version s = replied head (handshake_reply errors.UnsupportedSaslMechanism) s

abbrev pub authenticated : Setup → Bool → Head → List ℕ → Session → Session
authenticated setup true head message s = logged_in (login setup.users message) head s
authenticated setup false head message s = replied head illegal_state s

-- a bare message that names a user with its password binds the connection, any other shuts it without a reply
abbrev pub bare_login : Result Known (List ℕ) → Session → Session
bare_login (Ok known) s = bound known (record s { output = s.output ++ empty_frame })
bare_login (Err name) s = shut_down causes.Denied (failed name s)

-- what a request of a greeting connection does to it, where a mechanism was accepted or not; s is the connection without the request
unfoldable pub greeted_by : Setup → Bool → Head → Asked → Session → Session
greeted_by setup handshaken head Versions s = replied head (versions_in head.api_version setup.versions) s
greeted_by setup handshaken head OtherVersions s = replied head (versions_reply setup.versions errors.UnsupportedVersion) s
greeted_by setup handshaken head (Handshake version mechanism) s = shaken (bytes_eq mechanism (codes "PLAIN")) head version s
greeted_by setup handshaken head (Authenticate message) s = authenticated setup handshaken head message s
greeted_by setup handshaken head (Another key version body) s = shut_down (causes.NotLoggedIn head.api_key head.api_version) s
greeted_by setup handshaken head Malformed s = shut_down (unserved setup.versions head) s

-- what a whole frame does to it: it is a request, or PLAIN's message itself; s is the connection without the frame
abbrev pub greeted_frame : Setup → Greeting → List ℕ → Session → Session
greeted_frame setup Unshaken frame s = let r = request setup.versions frame in greeted_by setup false r.head r.asked s
greeted_frame setup Shaken frame s = let r = request setup.versions frame in greeted_by setup true r.head r.asked s
greeted_frame setup Bare frame s = bare_login (login setup.users frame) s

abbrev pub greeted_at : Setup → Greeting → Session → Front → Session
greeted_at setup greeting s (Whole frame rest) = greeted_frame setup greeting frame (record s { unread = rest })
greeted_at setup greeting s TooSmall = shut_down causes.TooShort s
greeted_at setup greeting s TooLarge = shut_down causes.TooLong s
greeted_at setup greeting s Partial = s

-- the turn of a greeting connection
unfoldable pub greeted : Setup → Greeting → Session → Session
greeted setup greeting s = greeted_at setup greeting s (in_front s)
