-- What is told of logins, and of connections that were shut. No line has more of a user than his name and that of his tenant.
use Rattle.std.specs.Prelude.{ℕ, zero, suc, List, [], ◌∷◌, ◌++◌, ◌==◌, vec_len, map, Bool, true, false, codes, decimal, Option, Some, None, string_bytes, slice_get, option_map, option_and_then, Result, if◌then◌else◌}
use Rattle.std.specs.declared.string.String.{String}
use Rattle.std.specs.Char.{is_ascii_graphic}
use Rattle.std.specs.Net.Text.{socket_text}
use Rattle.std.specs.declared.net.SocketAddr.{SocketAddr}
use Rattle.kb_operator.specs.declared.bucket.Bucket.{Bucket}
use Rattle.kb_operator.specs.declared.journal.Account.{Account}
use Rattle.kb_operator.specs.declared.journal.Journal.{Journal}
use Rattle.kb_operator.specs.declared.journal.Tenant.{Tenant}
use Rattle.kb_operator.specs.Known.{KnownUser, known_account}
use Rattle.kb_operator.specs.Logged.{LogLine, bytes_or_none}
use Rattle.kb_operator.specs.Speaks.{Speaks}
use Rattle.kb_operator.specs.Bucket.{at_second, due_at, has_room, told_of, with_line, with_more}

-- a name as it is told, with a question mark for each byte that is no printable ASCII
abbrev pub shown : List ℕ → List ℕ
shown name = map (λ b. if is_ascii_graphic b then b else 63) name

-- a login of a user that was right
abbrev pub login_line : SocketAddr → KnownUser → List ℕ
login_line address user =
    codes "login of " ++ shown user.name ++ codes " from " ++ socket_text address ++ codes ", tenant " ++ user.tenant

-- a login with a name that failed, or with none
abbrev pub failed_line : SocketAddr → List ℕ → List ℕ
failed_line address [] = codes "login failed from " ++ socket_text address
failed_line address (b ∷ name) = codes "login failed from " ++ socket_text address ++ codes " as " ++ shown (b ∷ name)

-- a connection that was shut, of a tenant where it had logged in
abbrev pub shut_line : SocketAddr → Option (List ℕ) → List ℕ → List ℕ
shut_line address None cause = codes "closed " ++ socket_text address ++ codes ": " ++ cause
shut_line address (Some tenant) cause = codes "closed " ++ socket_text address ++ codes " of tenant " ++ tenant ++ codes ": " ++ cause

-- how many more there were, if there were any
abbrev pub more_lines : List ℕ → ℕ → List (List ℕ)
more_lines words zero = []
more_lines words (suc n) = (words ++ decimal (suc n)) ∷ []

-- how many were passed over in seconds before
abbrev pub due_lines : List ℕ → ℕ → Bucket → List (List ℕ)
due_lines words second b = more_lines words (due_at second b)

-- the line itself, where its second has room
abbrev pub line_if : Bool → List ℕ → List (List ℕ)
line_if true line = line ∷ []
line_if false line = []

-- both, the count first
abbrev pub lines_in : List ℕ → List ℕ → ℕ → Bucket → List (List ℕ)
lines_in words line second b = due_lines words second b ++ line_if (has_room (at_second second (told_of second b))) line

-- what is left then
abbrev pub bucket_in : ℕ → Bucket → Bucket
bucket_in second b = with_line (at_second second (told_of second b))

-- the same of a login; one of a user that is not told of has no line
abbrev pub login_lines : SocketAddr → Option KnownUser → ℕ → Bucket → List (List ℕ)
login_lines address None second b = due_lines (codes "login of others: ") second b
login_lines address (Some user) second b = lines_in (codes "login of others: ") (login_line address user) second b

abbrev pub login_bucket : Option KnownUser → ℕ → Bucket → Bucket
login_bucket None second b = told_of second b
login_bucket (Some user) second b = bucket_in second b

-- the user at a place, where there is one whose logins are told
abbrev pub known_at : List Account → ℕ → Option KnownUser
known_at users place = option_map known_account (slice_get users place)

-- the name of the tenant at a place, where there is one
abbrev pub name_at : List Tenant → Option ℕ → Option (List ℕ)
name_at tenants place = option_map (λ t. string_bytes t.name) (option_and_then (slice_get tenants) place)

-- so many more logins were right; of users whose logins are not told they are not counted
abbrev pub with_more_logins : {T : Type 0} → ℕ → Journal T → Journal T
with_more_logins n j = if vec_len j.users == 0 then j else record j { logins = with_more n j.logins }

-- ---- what each call tells and leaves

abbrev pub TellsLogin : {T : Type 0} → (T → Option (List LogLine)) → ℕ → ℕ → SocketAddr → ℕ → Journal T → Journal T → Type 0
TellsLogin logged now second address place old new =
    Speaks logged now (login_lines address (known_at old.users.items place) second old.logins)
    (record old { logins = login_bucket (known_at old.users.items place) second old.logins }) old new

abbrev pub TellsFailed : {T : Type 0} → (T → Option (List LogLine)) → ℕ → ℕ → SocketAddr → List ℕ → Journal T → Journal T → Type 0
TellsFailed logged now second address name old new =
    Speaks logged now (lines_in (codes "login failed from others: ") (failed_line address name) second old.failed)
    (record old { failed = bucket_in second old.failed }) old new

-- a connection that was shut, and why, in words
abbrev pub TellsShutFor : {T : Type 0} → (T → Option (List LogLine)) → ℕ → ℕ → SocketAddr → Option ℕ → List ℕ → Journal T → Journal T → Type 0
TellsShutFor logged now second address place cause old new =
    Speaks logged now (lines_in (codes "closed others: ") (shut_line address (name_at old.tenants.items place) cause) second old.shut)
    (record old { shut = bucket_in second old.shut }) old new

abbrev pub TellsShut : {T A E : Type 0} → (T → Option (List LogLine)) → ℕ → ℕ → SocketAddr → Option ℕ → Result (String A) E → Journal T → Journal T → Type 0
TellsShut logged now second address place cause old new = TellsShutFor logged now second address place (bytes_or_none cause) old new
