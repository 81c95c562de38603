-- What is told and counted of a socket that is served.
use Rattle.std.specs.Prelude.{◌≡◌, ℕ, ◌+◌, ◌-◌, ◌^◌, ◌&&◌, min, Bool, true, false, not, is_some, if◌then◌else◌, Option, Some, None}
use Rattle.kb_isolation_spec.specs.Broker.{BrokerState, bound_to}
use Rattle.kb_isolation_spec.specs.Calls.{login_on, why_of}
use Rattle.kb_node.specs.Closed.{cause_for, closed_for}
use Rattle.kb_node.specs.News.{IsAddedIf}
use Rattle.kb_node.specs.Pieces.{has_too_long}
use Rattle.kb_node.specs.Sockets.{is_denied}
use Rattle.kb_node.specs.declared.closed.Cause.{Cause}
use Rattle.kb_node.specs.declared.closed.Closed.{Closed}
use Rattle.kb_node.specs.declared.news.LoginAttempt.{LoginAttempt}
use Rattle.kb_node.specs.declared.news.News.{News}
use Rattle.kb_node.specs.declared.socket.Socket.{Socket}
use Rattle.kb_node.specs.declared.turn.Turn.{Turn}

-- its connection has logged in, and that was not told before
abbrev pub is_new_login : {T : Type 0} → Socket T → BrokerState → Bool
is_new_login s b = not s.is_known && is_some (bound_to s.connection b)

-- a login on its connection failed, and that was not told before
abbrev pub is_new_denial : {T : Type 0} → Socket T → BrokerState → Bool
is_new_denial s b = not s.is_denied && is_denied s.connection b

-- the login that is told, where one is: who it was, and from where it came
abbrev pub login_told : {T : Type 0} → Bool → Socket T → BrokerState → Option LoginAttempt
login_told is_new s b = if is_new then Some (record { address = s.peer; login = login_on s.connection b }) else None

-- why its connection is told to be closed
abbrev pub cause_of : {T : Type 0} → Socket T → BrokerState → Option Cause
cause_of s b = cause_for (why_of s.connection b) (has_too_long s.is_bound s.input)

-- what is told of its connection, where that closes now
abbrev pub closed_told : {T : Type 0} → Bool → Socket T → BrokerState → Option Closed
closed_told is_closed s b = if is_closed then closed_for s.peer (bound_to s.connection b) (cause_of s b) else None

-- one more is counted where that is so, as far as 64 bits go
abbrev pub one_more_if : Bool → ℕ → ℕ
one_more_if true n = min (n + 1) (2 ^ 64 - 1)
one_more_if false n = n

-- What is told one by one: that it has logged in, that a login on it failed, and, where its connection closes, why the broker shut that, or
-- that too long a request came before the login. The failed login is counted, and that it closes.
pub record IsReported {T : Type 0} (s : Socket T) (b : BrokerState) (is_closed : Bool) (old new : News) (before after : Turn) : Type 0 where
  pub logins : IsAddedIf (login_told (is_new_login s b) s b) old.logins new.logins
  pub denied : IsAddedIf (login_told (is_new_denial s b) s b) old.denied new.denied
  pub closed : IsAddedIf (closed_told is_closed s b) old.closed new.closed
  pub counted : after ≡ record before {
    denied = one_more_if (is_new_denial s b) before.denied;
    closed = one_more_if is_closed before.closed;
  }
