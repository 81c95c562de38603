-- What a connection has, and what happens to it alone.
use Rattle.std.specs.Prelude.{ℕ, pos, ◌+◌, ◌*◌, ◌-◌, List, [], ◌++◌, length, Bool, true, false, not, ◌&&◌, if◌then◌else◌, nat_lt, Option, Some, None}
use Rattle.kb_api_group.specs.Frames.{Front, Whole, Partial, TooSmall, TooLarge, front}
use Rattle.kb_tenant.specs.Replies.{framed, reply_size}
use Rattle.kb_wire.specs.Codec.{int32}
use Rattle.kb_isolation_spec.specs.Tenant.{Wait, is_members}
use Rattle.kb_isolation_spec.specs.declared.head.Head.{Head}
use Rattle.kb_isolation_spec.specs.declared.login.Login.{Login}
use Rattle.kb_isolation_spec.specs.declared.login.Login.TheVariants as logins
use Rattle.kb_isolation_spec.specs.declared.shut.Shut.{Shut}
use Rattle.kb_isolation_spec.specs.declared.shut.Shut.TheVariants as causes

-- how far a greeting is: no mechanism was accepted; PLAIN was, and its message comes in a request of SaslAuthenticate; or PLAIN was,
-- and its message comes bare, as the next frame
pub data Greeting : Type 0 where
  Unshaken : Greeting
  Shaken : Greeting
  Bare : Greeting

-- whether a connection still greets, and then how far it is, or the tenant that it is bound to and its waiting request
pub data Stage : Type 0 where
  Greets : (greeting : Greeting) → Stage
  BoundTo : (tenant : ℕ) (wait : Option Wait) → Stage

-- what a connection has, but for its number: the greatest size of a request that is read on it, unread bytes, untaken output, whether the
-- broker shut it, and then why; and who logged in
pub record Session : Type 0 where
  pub stage : Stage
  pub limit : ℕ
  pub unread : List ℕ
  pub output : List ℕ
  pub shut : Bool
  pub why : Option Shut
  pub login : Login

-- one that has said nothing, on which no request of more than that many bytes is read
abbrev pub new_session : ℕ → Session
new_session limit = record { stage = Greets Unshaken; limit = limit; unread = []; output = []; shut = false; why = None; login = logins.Nobody }

abbrev pub without_wait : Stage → Stage
without_wait (Greets greeting) = Greets greeting
without_wait (BoundTo tenant wait) = BoundTo tenant None

-- it waits for the answer to a request
abbrev pub waiting : Wait → Stage → Stage
waiting wait (Greets greeting) = Greets greeting
waiting wait (BoundTo tenant earlier) = BoundTo tenant (Some wait)

-- the broker shuts it, for that cause: unread bytes and wait are dropped, untaken output and who logged in stay
abbrev pub shut_down : Shut → Session → Session
shut_down cause s =
    record { stage = without_wait s.stage; limit = s.limit; unread = []; output = s.output; shut = true; why = Some cause; login = s.login }

-- how many unread bytes a connection may have: a size and the largest request, twice
abbrev pub unread_limit : ℕ → ℕ
unread_limit limit = 2 * (4 + limit)

-- what stands in front of its unread bytes
abbrev pub in_front : Session → Front
in_front s = front s.limit s.unread

-- how many more bytes are taken
abbrev pub room : Session → ℕ
room s = unread_limit s.limit - length s.unread

-- whether a piece is longer than the room of a connection that is not shut
abbrev pub overruns : List ℕ → Session → Bool
overruns piece s = not s.shut && nat_lt (room s) (length piece)

-- a piece came: one longer than the room is not taken and shuts the connection; a shut one ignores it
unfoldable pub fed : List ℕ → Session → Session
fed piece s =
    if s.shut then s else if nat_lt (room s) (length piece) then shut_down causes.Overrun s else record s { unread = s.unread ++ piece }

-- the body of a reply: behind a throttle time of 0 milliseconds, where the request's version has one that the tenant's answer has not
abbrev pub throttled : Head → List ℕ → List ℕ
throttled head body = if head.is_throttled then int32.written (pos 0) ++ body else body

-- a request of that head gets no reply: its body does not match its version or names too much, or the reply's size fits no INT32
abbrev pub unanswerable : Head → Shut
unanswerable head = causes.Unanswerable head.api_key head.api_version

-- a reply is sent, unless its size does not fit an INT32: then the connection is shut
unfoldable pub replied : Head → List ℕ → Session → Session
replied head body s =
    if nat_lt 2147483647 (reply_size (throttled head body)) then shut_down (unanswerable head) s
    else record s { output = s.output ++ framed head.correlation_id (throttled head body) }

-- whether a member of a group waits on it
abbrev pub has_member : Stage → Bool
has_member (Greets greeting) = false
has_member (BoundTo tenant None) = false
has_member (BoundTo tenant (Some wait)) = is_members wait.awaited

abbrev pub is_free : Stage → Bool
is_free (Greets greeting) = true
is_free (BoundTo tenant None) = true
is_free (BoundTo tenant (Some wait)) = false

abbrev pub is_turn : Front → Bool
is_turn (Whole frame rest) = true
is_turn TooSmall = true
is_turn TooLarge = true
is_turn Partial = false

-- it can take a turn: it has no wait, and a whole unread request or a bad size (a shut one has no unread bytes)
unfoldable pub can : Session → Bool
can s = is_free s.stage && is_turn (in_front s)
