-- What an edge does in a turn, one move after another.
use Rattle.std.specs.Prelude.{◌≡◌, ◌<◌, ◌⊎◌, ℕ, List, [], ◌∷◌, ◌++◌, Bool, true, false, Option, Some, None, IfSome, IsSome, slice_get, slice_set}
use Rattle.std.specs.List.{AllByRecursion, remove}
use Rattle.kb_store.specs.Disk.{Disk}
use Rattle.kb_isolation_spec.specs.Machine.{Opens, Moment}
use Rattle.kb_isolation_spec.specs.Broker.{IsEventRun}
use Rattle.kb_isolation_spec.specs.Calls.{IsRefusedUnbound, opened}
use Rattle.kb_broker.specs.Hosts.{OnStore}
use Rattle.kb_node.specs.Commits.{Host}
use Rattle.kb_node.specs.declared.socket.Socket.{Socket}
use Rattle.kb_node.specs.Traffic.{Along, AreDone, Commit, Deed, Fail, Happens, IsDone, events_of, is_moment, moments_of, tried_after}
use Rattle.kb_node.specs.Known.{silent}
use Rattle.kb_node.specs.Carries.{CarriesWith, OnlyTells}
use Rattle.kb_node.specs.Cores.{Core, Seen, core, open_ones}

-- A connection opens, and its socket joins the others. Or a socket carries for its connection, all leave whose connections are closed, or
-- one of them at a place, or what was done is made to last.
pub data Move : Type 0 where
  Open : (number : ℕ) → Move
  Carry : (number : ℕ) → Move
  Leave : Move
  LeaveAt : (place : ℕ) → Move
  Settle : Move

-- one more socket is there, behind the others: it carries that stream for the connection of that number
pub record IsJoined {T : Type 0} (stream : T) (n : ℕ) (old new : List (Core T)) : Type 0 where
  pub behind : new ≡ old ++ record { connection = n; stream = stream; unwritten = []; unhanded = []; is_lost = false; is_ended = false } ∷ []

-- The broker keeps the connection of that number, and one more socket is there, which carries that stream for it.
pub record IsTakenIn {S T : Type 0} (stream : T) (n : ℕ) (from to : Seen S T) : Type 0 where
  pub opened : to.host.broker.state ≡ opened from.host.broker.state n
  pub joined : IsJoined stream n from.sockets to.sockets

-- The broker could not keep a connection, and no socket is there for it.
pub record IsLeftOut {S T : Type 0} (from to : Seen S T) : Type 0 where
  pub refused : IsRefusedUnbound from.host.broker.state to.host.broker.state
  pub sockets : to.sockets ≡ from.sockets

-- A connection opens, of a number above all that were tried before. Its socket joins the others, and carries that connection and no other; or
-- it could not be kept.
pub record HasOpened {S T : Type 0} (disk : S → Disk) (n : ℕ) (from to : Seen S T) : Type 0 where
  pub rises : from.host.tried < n
  pub tried : to.host.tried ≡ n
  pub sync : to.host.commits.sync ≡ from.host.commits.sync
  pub opens : Happens disk (Opens n) from.host.broker to.host.broker
  pub sockets : IsLeftOut from to ⊎ ((stream : T) × IsTakenIn stream n from to)

-- The socket at a place, of the connection of that number, which was not closed, carried between its stream and that connection. It did
-- nothing else to the broker, and the other sockets stay.
pub record HasCarried {S T : Type 0} (disk : S → Disk) (known : Deed → S → Type 0) (contents remaining : T → Option (List ℕ)) (n : ℕ)
    (from to : Seen S T) : Type 0 where
  pub place : ℕ
  pub old : Socket T
  pub new : Socket T
  pub before : slice_get from.sockets place ≡ Some (core old)
  pub after : to.sockets ≡ slice_set from.sockets place (core new)
  pub number : old.connection ≡ n
  pub same : new.connection ≡ n
  pub not_ended : old.is_ended ≡ false
  pub tried : to.host.tried ≡ from.host.tried
  pub sync : to.host.commits.sync ≡ from.host.commits.sync
  pub carries : CarriesWith disk known contents remaining old new from.host.broker to.host.broker

-- What was done was made to last, or that was refused, which is known from then on.
pub record HasSettled {S T : Type 0} (disk : S → Disk) (known : Deed → S → Type 0) (from to : Seen S T) : Type 0 where
  pub tried : to.host.tried ≡ from.host.tried
  pub sync : to.host.commits.sync ≡ from.host.commits.sync
  pub sockets : to.sockets ≡ from.sockets
  pub answer : (IsDone disk known Commit from.host.broker to.host.broker × (to.host.commits.fault ≡ None))
      ⊎ (IsDone disk known Fail from.host.broker to.host.broker × IsSome to.host.commits.fault)

-- It was done, and that is known of the store whenever output was taken, and behind a commit.
abbrev pub IsMoved : {S T : Type 0} → (S → Disk) → (Deed → S → Type 0) → (T → Option (List ℕ)) → (T → Option (List ℕ)) → Move
    → Seen S T → Seen S T → Type 0
IsMoved disk known contents remaining (Open n) from to = HasOpened disk n from to
IsMoved disk known contents remaining (Carry n) from to = HasCarried disk known contents remaining n from to
IsMoved disk known contents remaining Leave from to = (to.host ≡ from.host) × (to.sockets ≡ open_ones from.sockets)
IsMoved disk known contents remaining (LeaveAt p) from to =
    (to.host ≡ from.host) × IfSome (slice_get from.sockets p) (λ c. c.is_ended ≡ true) × (to.sockets ≡ remove from.sockets p)
IsMoved disk known contents remaining Settle from to = HasSettled disk known from to

-- moves lead from one to the other
pub record GoesWith {S T : Type 0} (disk : S → Disk) (known : Deed → S → Type 0) (contents remaining : T → Option (List ℕ))
    (from to : Seen S T) : Type 0 where
  pub moves : List Move
  pub done : Along (IsMoved disk known contents remaining) moves from to

-- The same, and no output was taken, and nothing was committed.
abbrev pub Goes : {S T : Type 0} → (S → Disk) → (T → Option (List ℕ)) → (T → Option (List ℕ)) → Seen S T → Seen S T → Type 0
Goes disk contents remaining from to = GoesWith disk silent contents remaining from to

-- A stream that was accepted is let in. Some may be closed before to make room for it, and meanwhile no connection opens. Then its own opens,
-- of a number above all that were tried before, and its socket joins the others; or it is closed, and no connection is open for it.
pub record IsAdmitted {S T : Type 0} (disk : S → Disk) (contents remaining : T → Option (List ℕ)) (stream : T) (from to : Seen S T) : Type 0 where
  pub room : Seen S T
  pub goes : Goes disk contents remaining from room
  pub tried : room.host.tried ≡ from.host.tried
  pub admitted : ((room.host.tried < to.host.tried) × IsTakenIn stream to.host.tried room to) ⊎ (IsLeftOut room to ⊎ (to ≡ room))

-- the socket of the connection of that number told what there was to say, and carried nothing else
pub record HasTold {S T : Type 0} (disk : S → Disk) (known : Deed → S → Type 0) (contents remaining : T → Option (List ℕ)) (n : ℕ)
    (from to : Seen S T) : Type 0 where
  pub carried : HasCarried disk known contents remaining n from to
  pub told : OnlyTells carried.carries

-- Sockets told what there was to say, one after another, or none did. Nothing was read of any, no piece came, and the store stays.
pub record GoesTellingWith {S T : Type 0} (disk : S → Disk) (known : Deed → S → Type 0) (contents remaining : T → Option (List ℕ))
    (from to : Seen S T) : Type 0 where
  pub numbers : List ℕ
  pub done : Along (HasTold disk known contents remaining) numbers from to
  pub store : to.host.broker.store ≡ from.host.broker.store

-- The same, and no output was taken.
abbrev pub GoesTelling : {S T : Type 0} → (S → Disk) → (T → Option (List ℕ)) → (T → Option (List ℕ)) → Seen S T → Seen S T → Type 0
GoesTelling disk contents remaining from to = GoesTellingWith disk silent contents remaining from to

-- a turn: the one moment that it is given, and then moves
pub record IsTurn {S T : Type 0} (disk : S → Disk) (known : Deed → S → Type 0) (contents remaining : T → Option (List ℕ)) (now : ℕ)
    (from to : Seen S T) : Type 0 where
  pub begun : Seen S T
  pub moment : Happens disk (Moment now) from.host.broker begun.host.broker
  pub tried : begun.host.tried ≡ from.host.tried
  pub sync : begun.host.commits.sync ≡ from.host.commits.sync
  pub sockets : begun.sockets ≡ from.sockets
  pub goes : GoesWith disk known contents remaining begun to

-- The same as events, takes of output and commits, one after another: the moment comes first, and there is no other. The events are a run:
-- the numbers of connections that open rise, from above all that were tried before, also where some cannot be kept.
pub record IsRunOf {S : Type 0} (disk : S → Disk) (known : Deed → S → Type 0) (now : ℕ) (from to : Host S) : Type 0 where
  pub begun : OnStore S
  pub moment : Happens disk (Moment now) from.broker begun
  pub sync : to.commits.sync ≡ from.commits.sync
  pub deeds : List Deed
  pub timeless : AllByRecursion (λ d. is_moment d ≡ false) deeds
  pub done : AreDone disk known deeds begun to.broker
  pub is_run : IsEventRun from.tried (Moment now ∷ events_of deeds)
  pub tried : to.tried ≡ tried_after from.tried (events_of deeds)

-- A list of deeds whose events are a run leads from one to the other. Its moments are those.
pub record IsRunThrough {S : Type 0} (disk : S → Disk) (known : Deed → S → Type 0) (nows : List ℕ) (from to : Host S) : Type 0 where
  pub deeds : List Deed
  pub done : AreDone disk known deeds from.broker to.broker
  pub moments : moments_of deeds ≡ nows
  pub is_run : IsEventRun from.tried (events_of deeds)
  pub tried : to.tried ≡ tried_after from.tried (events_of deeds)
