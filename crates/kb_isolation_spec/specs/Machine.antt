-- The machine of one tenant: its world, and what each event does to it. No other tenant is in it, and no queue, index or cache.
use Rattle.std.specs.Prelude.{ℕ, zero, suc, ◌+◌, ◌==◌, ℤ, List, [], ◌∷◌, ◌++◌, length, map, filter, Bool, true, false, not, if◌then◌else◌}
use Rattle.std.specs.Prelude.{Option, Some, None, nat_lt, max}
use Rattle.kb_api_group.specs.Frames.{Front, Whole, Partial, TooSmall, TooLarge, front}
use Rattle.kb_wire.specs.declared.error_code.ErrorCode.TheVariants as errors
use Rattle.kb_tenant.specs.Replies as tenant
use Rattle.kb_tenant.specs.Replies.{Replies, Waits, Silent, Shuts}
use Rattle.kb_tenant_api.specs.Hosted.{Kept, left, passed}
use Rattle.kb_tenant_api.specs.Replies.{Reaction, Plain, Rebalances}
use Rattle.kb_isolation_spec.specs.declared.head.Head.{Head}
use Rattle.kb_isolation_spec.specs.declared.shut.Shut.{Shut}
use Rattle.kb_isolation_spec.specs.declared.shut.Shut.TheVariants as causes
use Rattle.kb_isolation_spec.specs.Requests.{Asked, Versions, OtherVersions, Handshake, Authenticate, Another, Malformed, request, unserved}
use Rattle.kb_isolation_spec.specs.Tenant.{Records, Group, kept_after, reaction_to, ready}
use Rattle.kb_isolation_spec.specs.Session.{Stage, Greets, BoundTo, Session, new_session, without_wait, waiting, shut_down, overruns, fed, replied, in_front}
use Rattle.kb_isolation_spec.specs.Session.{has_member, can, unanswerable}
use Rattle.kb_isolation_spec.specs.Greeting.{Setup, for_tenant, greeted, versions_in, versions_reply, handshake_reply, illegal_state}

-- a connection: its number and what it has
pub record Line : Type 0 where
  pub number : ℕ
  pub session : Session

-- the world of a tenant: what is fixed, what it keeps, the clock, and its connections by rising number
pub record View : Type 0 where
  pub setup : Setup
  pub kept : Kept
  pub clock : ℕ
  pub lines : List Line

-- what may happen: a connection opens, bytes come on it, it closes, or a moment of time
pub data Happening : Type 0 where
  Opens : (number : ℕ) → Happening
  Comes : (number : ℕ) (piece : List ℕ) → Happening
  Closes : (number : ℕ) → Happening
  Moment : (now : ℕ) → Happening

-- 1. Requests of a bound connection

-- what a request of that head comes to that waits for no group
abbrev pub plainly : tenant.Reaction → Head → Session → Session
plainly (Replies reply) head s = replied head reply s
plainly (Waits deadline fetch places) head s =
    record s { stage = waiting (record { head = head; awaited = Records fetch.version fetch.body deadline fetch.limit }) s.stage }
plainly Silent head s = s
plainly Shuts head s = shut_down (unanswerable head) s

-- what a request of that head comes to
abbrev pub after_reaction : Reaction → Head → Session → Session
after_reaction (Plain reaction) head s = plainly reaction head s
after_reaction Rebalances head s = record s { stage = waiting (record { head = head; awaited = Group }) s.stage }

-- what a request of a bound connection, of number n, does to it; s is the connection without the request
unfoldable pub served_by : Setup → Kept → ℕ → ℕ → Head → Asked → Session → Session
served_by setup kept clock n head Versions s = replied head (versions_in head.api_version setup.versions) s
served_by setup kept clock n head OtherVersions s = replied head (versions_reply setup.versions errors.UnsupportedVersion) s
served_by setup kept clock n head (Handshake version mechanism) s = replied head (handshake_reply errors.IllegalSaslState) s
served_by setup kept clock n head (Authenticate message) s = replied head illegal_state s
served_by setup kept clock n head (Another key version body) s =
    after_reaction (reaction_to setup.node kept clock n key version body) head s
served_by setup kept clock n head Malformed s = shut_down (unserved setup.versions head) s

abbrev pub served_at : Setup → Kept → ℕ → ℕ → Session → Front → Session
served_at setup kept clock n s (Whole frame rest) =
    let r = request setup.versions frame in served_by setup kept clock n r.head r.asked (record s { unread = rest })
served_at setup kept clock n s TooSmall = shut_down causes.TooShort s
served_at setup kept clock n s TooLarge = shut_down causes.TooLong s
served_at setup kept clock n s Partial = s

-- the turn of a bound connection
unfoldable pub after_turn : Setup → Kept → ℕ → ℕ → Session → Session
after_turn setup kept clock n s = served_at setup kept clock n s (in_front s)

abbrev pub kept_by : Setup → Kept → ℕ → ℕ → Asked → Kept
kept_by setup kept clock n Versions = kept
kept_by setup kept clock n OtherVersions = kept
kept_by setup kept clock n (Handshake version mechanism) = kept
kept_by setup kept clock n (Authenticate message) = kept
kept_by setup kept clock n (Another key version body) = kept_after setup.node kept clock n key version body
kept_by setup kept clock n Malformed = kept

abbrev pub kept_at : Setup → Kept → ℕ → ℕ → Front → Kept
kept_at setup kept clock n (Whole frame rest) = kept_by setup kept clock n (request setup.versions frame).asked
kept_at setup kept clock n TooSmall = kept
kept_at setup kept clock n TooLarge = kept
kept_at setup kept clock n Partial = kept

-- what the turn of a bound connection, in front of whose unread bytes that stands, leaves of what is kept
unfoldable pub kept_by_turn : Setup → Kept → ℕ → ℕ → Front → Kept
kept_by_turn setup kept clock n front = kept_at setup kept clock n front

-- 2. Waits

-- what a waiting request comes to: a reply ends the wait
abbrev pub told : tenant.Reaction → Head → Session → Session
told (Replies reply) head s = replied head reply (record s { stage = without_wait s.stage })
told (Waits deadline fetch places) head s = s
told Silent head s = s
told Shuts head s = shut_down (unanswerable head) s

unfoldable pub woken_by : Kept → ℕ → ℕ → Session → Stage → Session
woken_by kept clock n s (Greets greeting) = s
woken_by kept clock n s (BoundTo tenant None) = s
woken_by kept clock n s (BoundTo tenant (Some wait)) = told (ready kept clock n wait) wait.head s

-- a request that waits, on the connection of number n, is answered where it is ready
abbrev pub woken : Kept → ℕ → ℕ → Session → Session
woken kept clock n s = woken_by kept clock n s s.stage

-- 3. Lists of connections

-- each connection is changed by its number
abbrev pub each_line : (ℕ → Session → Session) → List Line → List Line
each_line g lines = map (λ l. record { number = l.number; session = g l.number l.session }) lines

-- the connection of that number is changed
abbrev pub on : ℕ → (Session → Session) → ℕ → Session → Session
on n f k s = if k == n then f s else s

abbrev pub those : (ℕ → Bool) → List Line → List Line
those mine lines = filter (λ l. mine l.number) lines

abbrev pub find_line : ℕ → List Line → Option Session
find_line n [] = None
find_line n (l ∷ ls) = if l.number == n then Some l.session else find_line n ls

-- the first connection that can take a turn: the least-numbered, since the numbers of a list rise
abbrev pub first_able : List Line → Option Line
first_able [] = None
first_able (l ∷ ls) = if can l.session then Some l else first_able ls

-- 4. Turns

-- all waits that are ready are answered
abbrev pub all_woken : View → View
all_woken w = record w { lines = each_line (λ k s. woken w.kept w.clock k s) w.lines }

-- a bound connection's request, which sees of all nodes its tenant's alone: what is kept changes, then all waits that became ready are
-- answered
abbrev pub turn_at : View → ℕ → Front → Stage → View
turn_at w n front (Greets greeting) = record w { lines = each_line (on n (greeted w.setup greeting)) w.lines }
turn_at w n front (BoundTo tenant wait) =
    let setup = for_tenant w.setup tenant in
    all_woken (record w { kept = kept_by_turn setup w.kept w.clock n front; lines = each_line (on n (after_turn setup w.kept w.clock n)) w.lines })

abbrev pub turn_of : View → Option Line → View
turn_of w None = w
turn_of w (Some l) = turn_at w l.number (in_front l.session) l.session.stage

-- one request is served: that of the least-numbered connection that can take a turn, if any can
unfoldable pub turn : View → View
turn w = turn_of w (first_able w.lines)

abbrev pub again : {A : Type 0} → (A → A) → ℕ → A → A
again f zero x = x
again f (suc n) x = again f n (f x)

-- how many unread bytes there are
abbrev pub work : List Line → ℕ
work [] = 0
work (l ∷ ls) = length l.session.unread + work ls

-- turns until none is left: each takes at least one unread byte, and where no connection can take one a turn changes nothing
unfoldable pub turns : View → View
turns w = again turn (work w.lines) w

-- 5. Events

-- what is kept once the connection of number n is gone that was at that stage
abbrev pub kept_without : ℕ → ℕ → Stage → Kept → Kept
kept_without clock n stage kept = if has_member stage then left clock n kept else kept

-- what is kept once it is closed
abbrev pub kept_closed : ℕ → ℕ → Option Session → Kept → Kept
kept_closed clock n None kept = kept
kept_closed clock n (Some s) kept = kept_without clock n s.stage kept

-- what is kept once a piece came on it: one that is longer than its room shuts it
abbrev pub kept_fed : List ℕ → ℕ → ℕ → Option Session → Kept → Kept
kept_fed piece clock n None kept = kept
kept_fed piece clock n (Some s) kept = if overruns piece s then kept_without clock n s.stage kept else kept

-- one event: at a moment the clock, then the tenant's own part, then the waits that are ready, then turns; a moment before the clock
-- acts as one at the clock
abbrev pub step : Happening → View → View
step (Opens n) w = record w { lines = w.lines ++ record { number = n; session = new_session w.setup.request_bytes } ∷ [] }
step (Comes n piece) w =
    turns (record w { kept = kept_fed piece w.clock n (find_line n w.lines) w.kept; lines = each_line (on n (fed piece)) w.lines })
step (Closes n) w = record w { kept = kept_closed w.clock n (find_line n w.lines) w.kept; lines = those (λ k. not (k == n)) w.lines }
step (Moment now) w = let clock = max w.clock now in turns (all_woken (record w { kept = passed clock w.kept; clock = clock }))

-- an event that concerns the tenant is a step, any other is nothing
abbrev pub stepped : Bool → Happening → View → View
stepped true e w = step e w
stepped false e w = w

-- 6. Whole runs

-- what was written to a connection, whether the broker shut it, and then why
pub record Sent : Type 0 where
  pub number : ℕ
  pub bytes : List ℕ
  pub shut : Bool
  pub why : Option Shut

abbrev pub sent : Line → Sent
sent l = record { number = l.number; bytes = l.session.output; shut = l.session.shut; why = l.session.why }

-- what a closing connection got
abbrev pub leaving : Happening → List Line → List Sent
leaving (Opens n) lines = []
leaving (Comes n piece) lines = []
leaving (Closes n) lines = map sent (those (λ k. k == n) lines)
leaving (Moment now) lines = []

-- what each connection got: those that were closed, in order, and then those that are still open
abbrev pub run : List Happening → View → List Sent
run [] w = map sent w.lines
run (e ∷ es) w = leaving e w.lines ++ run es (step e w)

abbrev pub those_sent : (ℕ → Bool) → List Sent → List Sent
those_sent mine ss = filter (λ s. mine s.number) ss

abbrev pub place : Sent → List Sent → List Sent
place s [] = s ∷ []
place s (x ∷ xs) = if nat_lt s.number x.number then s ∷ x ∷ xs else x ∷ place s xs

-- the same list, by rising number
abbrev pub by_number : List Sent → List Sent
by_number [] = []
by_number (s ∷ ss) = place s (by_number ss)
