-- How long an edge waits, and for what.
use Rattle.std.specs.Prelude.{ℕ, zero, suc, ◌+◌, ◌-◌, ◌^◌, ◌&&◌, ◌||◌, ◌++◌, min, length, List, [], ◌∷◌, Bool, true, false, not, map, nat_eq, nat_le, nat_lt, slice_get, if◌then◌else◌, Option, Some, None}
use Rattle.std.specs.Option.{option_to_list}
use Rattle.kb_shares.specs.Shares.{Pool, has_room, piece_for}
use Rattle.kb_shares.specs.Turns.{Lines, after_next, enqueued, next}
use Rattle.kb_isolation_spec.specs.declared.login.Login.{Login}
use Rattle.kb_isolation_spec.specs.declared.login.Login.TheVariants as logins
use Rattle.kb_node.specs.declared.edge.Accepts.{Accepts}
use Rattle.kb_node.specs.declared.edge.Accepts.TheVariants as accepts
use Rattle.kb_node.specs.declared.lanes.Lanes.{Lanes}
use Rattle.kb_node.specs.declared.socket.Socket.{Socket}
use Rattle.kb_node.specs.Deadlines.{Stalls, first_stall, patience}
use Rattle.kb_node.specs.Carries.{unhanded_of}
use Rattle.kb_node.specs.Numbers.{socket_of}
use Rattle.kb_node.specs.Replies.{holder_place}
use Rattle.kb_node.specs.Requests.{awaited}
use Rattle.kb_node.specs.SocketShares.{Seats}

-- 1. Until when

-- the least of some moments
abbrev pub least : ℕ → List ℕ → ℕ
least moment [] = moment
least moment (other ∷ others) = least (min moment other) others

-- The first moment at which a socket of a holder is closed that makes another of that holder wait: the greatest number where the holder may
-- ask.
abbrev pub stall_of : ℕ → Pool → Stalls → ℕ → ℕ
stall_of millis replies stalls holder =
    if has_room holder 1 replies then 2 ^ 64 - 1 else first_stall holder (patience false millis) stalls

-- the first of these moments for the connections whose sockets can go on, and the greatest number where there is none
abbrev pub first_stall_of : ℕ → Seats → Pool → Stalls → List ℕ → ℕ
first_stall_of millis seats replies stalls numbers =
    least (2 ^ 64 - 1) (map (λ n. stall_of millis replies stalls (holder_place n seats)) numbers)

-- 2. How long

-- How many milliseconds are waited by a clock where nothing is to be done before a moment: a second at most. Where that moment has come it
-- is 100 if what was due was left due, and else 1.
abbrev pub quiet_millis : ℕ → ℕ → Bool → ℕ
quiet_millis next clock is_left_due = if nat_lt clock next then min (next - clock) 1000 else (if is_left_due then 100 else 1)

-- the same, where an accept that was refused is tried again within 100
abbrev pub wait_millis : Accepts → ℕ → ℕ
wait_millis accepts.Ready quiet = quiet
wait_millis accepts.Waiting quiet = quiet
wait_millis accepts.Refused quiet = min quiet 100

-- 3. What is to be done at once

-- the request in front of a socket may be handed on, where none begins of more than so many bytes: it is begun, its size is not there, or it
-- fits
abbrev pub fits : {T : Type 0} → ℕ → Option (Socket T) → Bool
fits most None = true
fits most (Some s) = nat_le (awaited s.input.progress.left (unhanded_of s)) most

-- the socket of a connection may be asked: its holder has room for more of replies, and for the request in front of it
abbrev pub may_be_asked : {T : Type 0} → Seats → Pool → Pool → List (Socket T) → ℕ → Bool
may_be_asked seats replies inputs sockets n =
    has_room (holder_place n seats) 1 replies && fits (piece_for (holder_place n seats) inputs) (socket_of n sockets)

abbrev pub is_ready : Accepts → Bool
is_ready accepts.Ready = true
is_ready accepts.Waiting = false
is_ready accepts.Refused = false

abbrev pub is_nobody : Lanes → Bool
is_nobody lanes = nat_eq (length lanes.short) 0 && nat_eq (length lanes.long) 0

-- an accept may find a socket, one is in line, or one of those that can go on may be asked
abbrev pub is_busy : Accepts → Lanes → Bool → Bool
is_busy accepts lanes may_ask = is_ready accepts || not (is_nobody lanes) || may_ask

-- 4. Whose turn it is

-- The next piece of a socket may end a long request: one of 65,536 bytes or more, of which no more than so many are still to be handed on.
abbrev pub is_long : {T : Type 0} → Option (Socket T) → Bool
is_long None = false
is_long (Some s) = nat_le 65536 s.input.progress.size && nat_le s.input.progress.left 65536

-- A connection stands in line behind the others of its holder, in the long lane or in the short one.
abbrev pub in_lane : Bool → ℕ → ℕ → Lanes → Lanes
in_lane is_long holder n lanes =
    if is_long then record lanes { long = enqueued holder n lanes.long } else record lanes { short = enqueued holder n lanes.short }

-- A round is one turn of the long lane: somebody is in line there, and nobody in the short lane, or that had two rounds since.
abbrev pub takes_long : Lanes → Bool
takes_long lanes = not (nat_eq (length lanes.long) 0) && (nat_eq (length lanes.short) 0 || nat_le 2 lanes.short_rounds)

-- how many rounds of the short lane there were behind it since one of the long lane was: 2 at most
abbrev pub rounds_behind : Lanes → ℕ
rounds_behind lanes = if takes_long lanes then 0 else min (lanes.short_rounds + 1) 2

-- a lane behind so many turns
abbrev pub behind : ℕ → Lines → Lines
behind zero lane = lane
behind (suc n) lane = behind n (after_next lane)

-- The lanes behind a round: one left the long lane, or the next 16 the short one.
abbrev pub behind_round : Lanes → Lanes
behind_round lanes =
    if takes_long lanes then record lanes { long = after_next lanes.long; short_rounds = rounds_behind lanes }
    else record lanes { short = behind 16 lanes.short; short_rounds = rounds_behind lanes }

-- how many bytes the request has that a socket has begun
abbrev pub begun_by : {T : Type 0} → Option (Socket T) → ℕ
begun_by None = 0
begun_by (Some s) = s.input.progress.size

-- how many of so many bytes are left behind the next turn of the long lane: none where nobody has it
abbrev pub room_behind : {T : Type 0} → ℕ → Option ℕ → List (Socket T) → ℕ
room_behind room None sockets = 0
room_behind room (Some n) sockets = room - begun_by (socket_of n sockets)

-- How many turns the long lane has before a commit, and at most so many: the next as long as there is room for bytes, of which each takes as
-- many as its request has.
abbrev pub long_turns : {T : Type 0} → ℕ → ℕ → Lines → List (Socket T) → ℕ
long_turns zero room lane sockets = 0
long_turns (suc most) room lane sockets =
    if nat_eq room 0 then 0 else suc (long_turns most (room_behind room (next lane) sockets) (after_next lane) sockets)

-- and whose turns they are
abbrev pub long_ones : {T : Type 0} → ℕ → ℕ → Lines → List (Socket T) → List ℕ
long_ones zero room lane sockets = []
long_ones (suc most) room lane sockets =
    if nat_eq room 0 then []
    else option_to_list (next lane) ++ long_ones most (room_behind room (next lane) sockets) (after_next lane) sockets

abbrev pub socket_at : {T : Type 0} → Option ℕ → List (Socket T) → Option (Socket T)
socket_at None sockets = None
socket_at (Some place) sockets = slice_get sockets place

-- the place of the user who logged in, where one did
abbrev pub user_in : Login → Option ℕ
user_in (logins.User place) = Some place
user_in logins.Nobody = None
user_in (logins.Failed name) = None
