-- What the broker's calls answer, and the state that they leave.
use Rattle.std.specs.Prelude.{◌≡◌, ℕ, ◌==◌, ◌&&◌, List, [], ◌∷◌, ◌++◌, max, Bool, true, false, not, if◌then◌else◌, Option, Some, None}
use Rattle.kb_isolation_spec.specs.Session.{Stage, Greets, BoundTo, Session, new_session, room, has_member}
use Rattle.kb_isolation_spec.specs.Machine.{each_line, on, those, find_line}
use Rattle.kb_tenant_state.specs.Counts.{counted_once}
use Rattle.kb_tenant_api.specs.Hosted.{TenantState, kept_of, left}
use Rattle.kb_tenant_api.specs.Turns.{with_kept, count_named, all_calm}
use Rattle.kb_isolation_spec.specs.declared.login.Login.{Login}
use Rattle.kb_isolation_spec.specs.declared.login.Login.TheVariants as logins
use Rattle.kb_isolation_spec.specs.declared.shut.Shut.{Shut}
use Rattle.kb_isolation_spec.specs.Broker.{BrokerState}

-- 1. The state that a call leaves

-- after a connection opened
abbrev pub opened : BrokerState → ℕ → BrokerState
opened b n = record b { last = n; lines = b.lines ++ record { number = n; session = new_session b.setup.request_bytes } ∷ [] }

-- after a connection could not be kept: one refusal more is counted for no tenant, short of the end of the count
pub record IsRefusedUnbound (old new : BrokerState) : Type 0 where
  pub is : new ≡ record old { unbound_refusals = new.unbound_refusals }
  pub once : new.unbound_refusals ≡ counted_once old.unbound_refusals

abbrev pub other_than : ℕ → ℕ → Bool
other_than n k = not (k == n)

abbrev pub left_by : ℕ → ℕ → Stage → List TenantState → List TenantState
left_by clock n (Greets greeting) ts = ts
left_by clock n (BoundTo t wait) ts = if has_member (BoundTo t wait) then with_kept t (left clock n (kept_of ts t)) ts else ts

-- the tenants once the connection of number n is gone: a member that waited on it waits no longer
abbrev pub left_in : ℕ → ℕ → Option Session → List TenantState → List TenantState
left_in clock n None ts = ts
left_in clock n (Some s) ts = left_by clock n s.stage ts

-- after a connection closed
abbrev pub closed : BrokerState → ℕ → BrokerState
closed b n = record b { tenants = left_in b.clock n (find_line n b.lines) b.tenants; lines = those (other_than n) b.lines }

-- after a moment
abbrev pub moved : BrokerState → ℕ → BrokerState
moved b now = record b { clock = max b.clock now }

abbrev pub without_output : Session → Session
without_output s = record s { output = [] }

-- after a connection's output was taken
abbrev pub output_taken : BrokerState → ℕ → BrokerState
output_taken b n = record b { lines = each_line (on n without_output) b.lines }

-- 2. What is asked of a connection: of one that is not open there is nothing

abbrev pub output_in : Option Session → List ℕ
output_in None = []
output_in (Some s) = s.output

-- the untaken output
abbrev pub output_of : ℕ → BrokerState → List ℕ
output_of n b = output_in (find_line n b.lines)

abbrev pub shut_in : Option Session → Bool
shut_in None = false
shut_in (Some s) = s.shut

-- why the broker shut it, if it did
abbrev pub why_in : Option Session → Option Shut
why_in None = None
why_in (Some s) = s.why

abbrev pub why_of : ℕ → BrokerState → Option Shut
why_of n b = why_in (find_line n b.lines)

-- who logged in on it
abbrev pub login_in : Option Session → Login
login_in None = logins.Nobody
login_in (Some s) = s.login

abbrev pub login_on : ℕ → BrokerState → Login
login_on n b = login_in (find_line n b.lines)

-- whether the broker shut it
abbrev pub is_shut : ℕ → BrokerState → Bool
is_shut n b = shut_in (find_line n b.lines)

abbrev pub open_in : Option Session → Bool
open_in None = false
open_in (Some s) = true

abbrev pub is_open : ℕ → BrokerState → Bool
is_open n b = open_in (find_line n b.lines)

abbrev pub room_if_open : Option Session → ℕ
room_if_open None = 0
room_if_open (Some s) = room s

-- how many more bytes it takes
abbrev pub room_of : ℕ → BrokerState → ℕ
room_of n b = room_if_open (find_line n b.lines)

-- 3. Counts

-- the count of the first tenant of that name, or 0
abbrev pub refusals_named : List ℕ → BrokerState → ℕ
refusals_named name b = count_named name b.tenants

-- no refusal has been counted
abbrev pub is_calm : BrokerState → Bool
is_calm b = b.unbound_refusals == 0 && all_calm b.tenants
