-- What the code's types are in the machine's words.
use Rattle.std.specs.Prelude.{◌≡◌, ◌≤◌, ◌==◌, ◌||◌, ℕ, List, [], length, Bool, true, not, Option, Some, None, Result, Ok, Err}
use Rattle.kb_wire.specs.declared.fault.ReadFault.{ReadFault}
use Rattle.kb_wire.specs.declared.fault.ReadFault.TheVariants as faults
use Rattle.kb_isolation_spec.specs.Tenant.{Awaited, Records, Group, Wait}
use Rattle.kb_isolation_spec.specs.Requests.{Asked, Versions, OtherVersions, Handshake, Authenticate, Another, Malformed, Request}
use Rattle.kb_isolation_spec.specs.Session.{Greeting, Unshaken, Shaken, Bare, Stage, Greets, BoundTo, Session, unread_limit, in_front, is_free}
use Rattle.kb_isolation_spec.specs.Machine.{Line}
use Rattle.kb_api_group.specs.FrameStream.{behind}
use Rattle.kb_connection.specs.declared.request.Asked.TheVariants as asked
use Rattle.kb_connection.specs.declared.request.Asked.{Asked as Read}
use Rattle.kb_connection.specs.declared.request.Request.{Request as ReadRequest}
use Rattle.kb_connection.specs.declared.greeting.Greeting.{Greeting as HowFar}
use Rattle.kb_connection.specs.declared.greeting.Greeting.TheVariants as greetings
use Rattle.kb_connection.specs.declared.stage.Phase.{Phase}
use Rattle.kb_connection.specs.declared.stage.Phase.TheVariants as phases
use Rattle.kb_connection.specs.declared.stage.Awaited.{Awaited as Awaits}
use Rattle.kb_connection.specs.declared.stage.Awaited.TheVariants as awaited
use Rattle.kb_connection.specs.declared.stage.Waiting.{Waiting}
use Rattle.kb_connection.specs.declared.stage.Stage.{Stage as Held}
use Rattle.kb_connection.specs.declared.stage.Stage.TheVariants as stages

-- what a request asks
abbrev pub asked_of : Read → Asked
asked_of asked.Versions = Versions
asked_of asked.OtherVersions = OtherVersions
asked_of (asked.Handshake version mechanism) = Handshake version mechanism
asked_of (asked.Authenticate message) = Authenticate message
asked_of (asked.Another key version body) = Another key version body
asked_of asked.Malformed = Malformed

-- what a body is read as, unless memory ran out; bytes that match nothing are not read
abbrev pub ReadsAs : Asked → Result Read ReadFault → Type 0
ReadsAs a (Ok read) = asked_of read ≡ a
ReadsAs a (Err (faults.Wire fault)) = Malformed ≡ a
ReadsAs a (Err faults.Memory) = Unit {0}

abbrev pub request_of : ReadRequest → Request
request_of r = record { head = r.head; asked = asked_of r.asked }

-- what a request waits for
abbrev pub awaited_of : Awaits → Awaited
awaited_of (awaited.Records fetch deadline) = Records fetch.version fetch.body deadline fetch.limit
awaited_of awaited.Group = Group

-- a request that waits for its answer
abbrev pub wait_of : Waiting → Wait
wait_of w = record { head = w.head; awaited = awaited_of w.awaited }

-- how far a greeting is
abbrev pub greeting_of : HowFar → Greeting
greeting_of greetings.Unshaken = Unshaken
greeting_of greetings.Shaken = Shaken
greeting_of greetings.Bare = Bare

-- the stage of a connection, but for its wait
abbrev pub stage_of : Phase → Stage
stage_of (phases.Greets greeting) = Greets (greeting_of greeting)
stage_of (phases.Bound tenant) = BoundTo tenant None

-- the stage of a connection
abbrev pub stage_with_wait : Held → Stage
stage_with_wait (stages.Greets greeting) = Greets (greeting_of greeting)
stage_with_wait (stages.Bound tenant) = BoundTo tenant None
stage_with_wait (stages.Waits tenant request) = BoundTo tenant (Some (wait_of request))

-- a connection with another session
abbrev pub with_session : Line → Session → Line
with_session l s = record { number = l.number; session = s }

-- a connection without the request in front
abbrev pub without_front : Session → Session
without_front s = record s { unread = behind (in_front s) s.unread }

-- whether a connection has something to tell: output that was not taken, or that it was shut
abbrev pub speaks : Session → Bool
speaks s = not (length s.output == 0) || s.shut

-- a connection on which no request above that size is read has at most so many unread bytes, and one that was shut has none and waits
-- for nothing
abbrev pub IsLimited : ℕ → List ℕ → Stage → Bool → Type 0
IsLimited limit unread stage shut =
    (length unread ≤ unread_limit limit) × (shut ≡ true → unread ≡ []) × (shut ≡ true → is_free stage ≡ true)

-- and so has each open connection of that number
abbrev pub IsLimitedIn : Option Session → Type 0
IsLimitedIn None = Unit {0}
IsLimitedIn (Some s) = IsLimited s.limit s.unread s.stage s.shut
