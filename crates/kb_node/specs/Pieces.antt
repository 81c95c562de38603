-- What of a piece is handed on, and how far a socket is in a request then.
use Rattle.std.specs.Prelude.{ℕ, List, drop, length, Bool, ◌&&◌, nat_eq, if◌then◌else◌}
use Rattle.kb_node.specs.declared.input.Input.{Input}
use Rattle.kb_node.specs.declared.input.Progress.{Progress}
use Rattle.kb_node.specs.Requests.{awaited, gone_on, is_too_long, may_begin, piece_len}

-- what was read and is not handed on
abbrev pub unhanded : Input → List ℕ
unhanded i = drop i.handed i.bytes.items

-- the request in front, of which nothing was handed on, is too long before the login
abbrev pub has_too_long : Bool → Input → Bool
has_too_long is_bound i = is_too_long is_bound (awaited i.progress.left (unhanded i))

-- a piece begins too long a request before the login: nothing is kept in front of it
abbrev pub begins_too_long : Bool → List ℕ → Input → Bool
begins_too_long is_bound piece i = nat_eq (length (unhanded i)) 0 && is_too_long is_bound (awaited i.progress.left piece)

-- A piece may be handed on past what is kept: nothing is, and its request is begun, or may begin where none begins of more than `most` bytes.
abbrev pub may_pass : Bool → ℕ → List ℕ → Input → Bool
may_pass is_bound most piece i = nat_eq (length (unhanded i)) 0 && may_begin is_bound most (awaited i.progress.left piece)

-- how many bytes at the front of a piece are handed on past what is kept, where there is so much room
abbrev pub passed_len : Bool → ℕ → ℕ → List ℕ → Input → ℕ
passed_len is_bound most room piece i = if may_pass is_bound most piece i then piece_len i.progress.left room piece else 0

-- how far it is in a request then
abbrev pub progress_behind : Bool → ℕ → ℕ → List ℕ → Input → Progress
progress_behind is_bound most room piece i =
    if may_pass is_bound most piece i then gone_on (piece_len i.progress.left room piece) piece i.progress else i.progress

-- how far it is in a request once what is kept was handed on, as far as that and so much room go, where the request is begun or may begin
abbrev pub progress_on : Bool → ℕ → ℕ → Input → Progress
progress_on is_bound most room i =
    if may_begin is_bound most (awaited i.progress.left (unhanded i))
    then gone_on (piece_len i.progress.left room (unhanded i)) (unhanded i) i.progress else i.progress
