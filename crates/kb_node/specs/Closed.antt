-- Which closed connections are told, and what of them.
use Rattle.std.specs.Prelude.{ℕ, Bool, if◌then◌else◌, Option, Some, None}
use Rattle.std.specs.declared.net.socket_addr.SocketAddr.{SocketAddr}
use Rattle.kb_isolation_spec.specs.declared.shut.Shut.{Shut}
use Rattle.kb_node.specs.Sockets.{is_denied_by}
use Rattle.kb_node.specs.declared.closed.Cause.{Cause}
use Rattle.kb_node.specs.declared.closed.Cause.TheVariants as causes
use Rattle.kb_node.specs.declared.closed.Closed.{Closed}

-- Why a connection is told to be closed: the broker shut it, or, where it did not, its socket has too long a request in front before the
-- login. Nothing is told of others, nor of a login that failed, of which more is told elsewhere.
abbrev pub cause_for : Option Shut → Bool → Option Cause
cause_for None is_too_long = if is_too_long then Some causes.LongBeforeLogin else None
cause_for (Some shut) is_too_long = if is_denied_by shut then None else Some (causes.Shut shut)

-- A connection from there, of the tenant at that place if it had logged in, is told with its cause, where there is one.
abbrev pub closed_for : SocketAddr → Option ℕ → Option Cause → Option Closed
closed_for address tenant None = None
closed_for address tenant (Some cause) = Some (record { address = address; tenant = tenant; cause = cause })
