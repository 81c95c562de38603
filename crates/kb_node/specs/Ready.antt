-- Which sockets can go on, and who comes behind them.
use Rattle.std.specs.Prelude.{◌≡◌, ◌≤◌, ◌<◌, ◌⊎◌, ⊤, ◌-◌, ◌&&◌, ◌||◌, ◌++◌, min, ◌∷◌, [], ℕ, List, Bool, true, false, not, nat_eq, is_none, vec_len, slice_get, slice_set, Option, Some, None}
use Rattle.std.specs.List.{AllByRecursion}
use Rattle.std.specs.Vec.{vec_capacity}
use Rattle.std.specs.declared.alloc.Global.{Global}
use Rattle.std.specs.declared.vec.Vec.{Vec}
use Rattle.kb_shares.specs.Shares.{Pool}
use Rattle.kb_isolation_spec.specs.Broker.{BrokerState}
use Rattle.kb_broker.specs.Speakers.{speakers}
use Rattle.kb_node.specs.declared.lanes.Lanes.{Lanes}
use Rattle.kb_node.specs.declared.socket.Socket.{Socket}
use Rattle.kb_node.specs.Numbers.{socket_of}
use Rattle.kb_node.specs.Replies.{holder_place}
use Rattle.kb_node.specs.SocketShares.{Seats}
use Rattle.kb_node.specs.Waiting.{in_lane, is_long, may_be_asked}

-- 1. Who can go on

-- the connections whose sockets can go on, in their order, but for those in line; and all sockets
pub record Ready (T : Type 0) : Type 0 where
  pub numbers : Vec ℕ Global
  pub sockets : List (Socket T)

abbrev pub ready_of : {T : Type 0} → Vec ℕ Global → List (Socket T) → Ready T
ready_of numbers sockets = record { numbers = numbers; sockets = sockets }

-- A socket comes behind those that can go on, as there is room. It is noted on it that its turn is to come, and the other sockets stay.
pub record ComesBehind {T : Type 0} (s : Socket T) (old new : Ready T) : Type 0 where
  pub place : ℕ
  pub there : slice_get old.sockets place ≡ Some s
  pub room : vec_len old.numbers < vec_capacity old.numbers
  pub behind : new.numbers.items ≡ old.numbers.items ++ s.connection ∷ []
  pub noted : new.sockets ≡ slice_set old.sockets place (record s { is_queued = true })

-- the list of those that can go on is full, and all stays
pub record IsFull {T : Type 0} (old new : Ready T) : Type 0 where
  pub full : vec_capacity old.numbers ≤ vec_len old.numbers
  pub same : new ≡ old

-- a socket comes behind them where that is to be, unless the list is full, and else all stays
abbrev pub IsQueued : {T : Type 0} → Bool → Socket T → Ready T → Ready T → Type 0
IsQueued true s old new = ComesBehind s old new ⊎ IsFull old new
IsQueued false s old new = new ≡ old

-- 2. Who is heard

-- all that was said to it before is written, and no failed login on it waits
abbrev pub can_hear : {T : Type 0} → Socket T → Bool
can_hear s = nat_eq (vec_len s.output - s.written) 0 && is_none s.held

abbrev pub HearsAt : {T : Type 0} → Option (Socket T) → Ready T → Ready T → Type 0
HearsAt None old new = new ≡ old
HearsAt (Some s) old new = IsQueued (can_hear s && not s.is_queued) s old new

-- The broker has something to say to a connection. Its socket can go on from now on, if it can hear that, and its turn was not to come yet.
abbrev pub Hears : {T : Type 0} → ℕ → Ready T → Ready T → Type 0
Hears n old new = HearsAt (socket_of n old.sockets) old new

-- it cannot hear anything now, or its turn is to come
abbrev pub IsCalled : {T : Type 0} → Option (Socket T) → Type 0
IsCalled None = ⊤
IsCalled (Some s) = can_hear s ≡ true → s.is_queued ≡ true

-- so it is of each connection that the broker has something to say to
abbrev pub AreCalled : {T : Type 0} → BrokerState → List (Socket T) → Type 0
AreCalled b sockets = AllByRecursion (λ n. IsCalled (socket_of n sockets)) (speakers b.lines)

-- 3. Who stands in line

-- the lanes, and those who can go on and stand in none
pub record Standing : Type 0 where
  pub lanes : Lanes
  pub ready : Vec ℕ Global

-- a connection comes behind the others of a list, unless there is no memory for it
abbrev pub ComesLast : ℕ → Vec ℕ Global → Vec ℕ Global → Type 0
ComesLast n old new = (new.items ≡ old.items ++ n ∷ []) ⊎ ((vec_capacity old ≤ vec_len old) × (new.items ≡ old.items))

-- a connection stays among those who can go on, unless there is no memory for it
pub record StaysReady (n : ℕ) (old new : Standing) : Type 0 where
  pub lanes : new.lanes ≡ old.lanes
  pub ready : ComesLast n old.ready new.ready

-- One that may stand in line stands there, which makes these lanes of them. One that may not, or for which there is no memory there, stays
-- among those who can go on.
abbrev pub IsLinedUp : Bool → Lanes → ℕ → Standing → Standing → Type 0
IsLinedUp true lanes n old new = ((new.lanes ≡ lanes) × (new.ready ≡ old.ready)) ⊎ StaysReady n old new
IsLinedUp false lanes n old new = StaysReady n old new

-- So it is of a connection, where all may stand in line, or those alone that may be asked: in the lane that is for it, behind the others of its
-- holder.
abbrev pub LinesUp : {T : Type 0} → Bool → Seats → Pool → Pool → List (Socket T) → ℕ → Standing → Standing → Type 0
LinesUp is_for_all shares replies inputs sockets n old new =
    IsLinedUp (is_for_all || may_be_asked shares replies inputs sockets n)
    (in_lane (is_long (socket_of n sockets)) (min (holder_place n shares) 256) n old.lanes) n old new
