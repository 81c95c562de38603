-- When a socket's connection is asked, and when it is closed.
use Rattle.std.specs.Prelude.{ℕ, length, Bool, not, ◌==◌, ◌&&◌, ◌||◌, true, false, Option, Some, None}
use Rattle.kb_isolation_spec.specs.Broker.{BrokerState}
use Rattle.kb_isolation_spec.specs.Calls.{is_shut, output_of, why_of}
use Rattle.kb_isolation_spec.specs.Machine.{find_line}
use Rattle.kb_isolation_spec.specs.declared.shut.Shut.{Shut}
use Rattle.kb_isolation_spec.specs.declared.shut.Shut.TheVariants.{Denied}
use Rattle.kb_broker.specs.Places.{waits_in}

-- the connection waits for the answer to a request
abbrev pub is_waiting : ℕ → BrokerState → Bool
is_waiting n b = waits_in (find_line n b.lines)

-- the broker has something to say to the connection, or shut it
abbrev pub speaks_of : ℕ → BrokerState → Bool
speaks_of n b = not (length (output_of n b) == 0) || is_shut n b

-- A request may be handed on: the peer is there, all output is written, the broker did not shut the connection, and it does
-- not wait.
abbrev pub can_ask : Bool → ℕ → ℕ → BrokerState → Bool
can_ask is_over unwritten n b = not is_over && (unwritten == 0) && not (is_shut n b) && not (is_waiting n b)

abbrev pub is_denied_by : Shut → Bool
is_denied_by Denied = true
is_denied_by cause = false

abbrev pub is_denial : Option Shut → Bool
is_denial None = false
is_denial (Some cause) = is_denied_by cause

-- a login on the connection failed
abbrev pub is_denied : ℕ → BrokerState → Bool
is_denied n b = is_denial (why_of n b)

-- a login on the connection failed, and may not be answered yet
abbrev pub is_held : Bool → ℕ → BrokerState → Bool
is_held may_answer n b = not may_answer && is_denied n b

-- The connection is to be closed: the peer is gone, or the broker shut it and all output is written, but for a failed login that may not be
-- answered yet, or nobody would read what it waits for.
abbrev pub is_done : Bool → Bool → Bool → ℕ → ℕ → BrokerState → Bool
is_done is_over is_half_closed may_answer unwritten n b =
    is_over || (unwritten == 0) && is_shut n b && not (is_held may_answer n b)
    || is_half_closed && (is_waiting n b || is_held may_answer n b)
