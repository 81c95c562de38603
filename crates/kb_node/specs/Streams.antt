-- What becomes of the bytes of each connection between its socket and the broker, however often an edge is turned.
use Rattle.std.specs.Prelude.{◌≡◌, ◌⊎◌, ◌≤◌, ◌<◌, ◌==◌, ◌||◌, ◌++◌, ℕ, List, [], ◌∷◌, nat_eq, if◌then◌else◌, Bool, true, false, Option, Some, None, IfSome}
use Rattle.std.specs.List.{find, flat_map}
use Rattle.kb_store.specs.Disk.{Disk}
use Rattle.kb_tenant_state.specs.Counts.{IsCalm}
use Rattle.kb_isolation_spec.specs.Machine.{Closes, Comes, Happening, Moment, Opens, Sent, those_sent}
use Rattle.kb_isolation_spec.specs.Broker.{IsCalmFor, IsSound, IsUnowned, alone, alone_unowned, only, owned_by}
use Rattle.kb_broker.specs.Hosts.{is_honest}
use Rattle.kb_node.specs.Carries.{GoesOn}
use Rattle.kb_node.specs.Cores.{Core, Seen}
use Rattle.kb_node.specs.Got.{taken_of}
use Rattle.kb_node.specs.Moves.{IsRunThrough}
use Rattle.kb_node.specs.Numbers.{IsInOrder}
use Rattle.kb_node.specs.Traffic.{Along, Commit, Deed, Event, Fail, IsUsed, Take, Use, events_of, read_by, written_by}

-- 1. The socket of a connection

-- the socket of a connection, if one carries it
abbrev pub core_of : {T : Type 0} → ℕ → List (Core T) → Option (Core T)
core_of n sockets = find (λ c. nat_eq c.connection n) sockets

-- what was said to it and is not written
abbrev pub unwritten_in : {T : Type 0} → Option (Core T) → List ℕ
unwritten_in None = []
unwritten_in (Some c) = c.unwritten

-- what was read on it and is not handed on
abbrev pub unhanded_in : {T : Type 0} → Option (Core T) → List ℕ
unhanded_in None = []
unhanded_in (Some c) = c.unhanded

-- its connection is closed
abbrev pub is_closed_in : {T : Type 0} → Option (Core T) → Bool
is_closed_in None = true
is_closed_in (Some c) = c.is_ended

-- the same, or some of what was read on it is lost
abbrev pub is_broken_in : {T : Type 0} → Option (Core T) → Bool
is_broken_in None = true
is_broken_in (Some c) = c.is_lost || c.is_ended

-- 2. What came on a connection

-- the bytes that came on it in an event
abbrev pub came_in : ℕ → Happening → List ℕ
came_in n (Opens k) = []
came_in n (Comes k piece) = if n == k then piece else []
came_in n (Closes k) = []
came_in n (Moment now) = []

-- the bytes that were handed on as its bytes, in order
abbrev pub handed_of : ℕ → List Deed → List ℕ
handed_of n [] = []
handed_of n (Event e ∷ ds) = came_in n e ++ handed_of n ds
handed_of n (Take k bytes ∷ ds) = handed_of n ds
handed_of n (Commit ∷ ds) = handed_of n ds
handed_of n (Fail ∷ ds) = handed_of n ds

-- 3. What a socket carries

-- A stream is the one of a connection's socket. Or no socket carries that connection yet, and its number is above all that were tried.
abbrev pub BeginsWith : {T : Type 0} → T → ℕ → ℕ → Option (Core T) → Type 0
BeginsWith stream n tried None = tried < n
BeginsWith stream n tried (Some c) = c.stream ≡ stream

-- A stream is the one of a connection's socket. Or no socket carries that connection any more, and its number is not tried again.
abbrev pub EndsWith : {T : Type 0} → T → ℕ → ℕ → Option (Core T) → Type 0
EndsWith stream n tried None = n ≤ tried
EndsWith stream n tried (Some c) = c.stream ≡ stream

-- A socket carried a connection, by one stream. What was written to that is what was unwritten, and then what was taken of the connection,
-- in order. What was handed on as the connection's bytes is what was kept, and then what was read of the stream, in order. Nothing is lost
-- but at the end, and what was read but for want of memory. The greatest numbers that were tried before and after are given.
pub record IsCarried {T : Type 0} (contents remaining : T → Option (List ℕ)) (n : ℕ) (deeds : List Deed) (before after : ℕ)
    (old new : Option (Core T)) : Type 0 where
  pub first : T
  pub last : T
  pub uses : List Use
  pub begins : BeginsWith first n before old
  pub ends : EndsWith last n after new
  pub used : Along (IsUsed contents remaining) uses first last
  pub writes : GoesOn (unwritten_in old ++ taken_of n deeds) (flat_map written_by uses) (is_closed_in new ≡ false) (unwritten_in new)
  pub hands_on : GoesOn (unhanded_in old ++ flat_map read_by uses) (handed_of n deeds) (is_broken_in new ≡ false) (unhanded_in new)
  -- behind its end nothing is read or written, nor taken or handed on
  pub ended : IfSome old (λ c. c.is_ended ≡ true
      → (is_closed_in new ≡ true) × (uses ≡ []) × (taken_of n deeds ≡ []) × (handed_of n deeds ≡ []))
  -- behind what was lost nothing is read or handed on
  pub lost : IfSome old (λ c. c.is_lost ≡ true → (is_broken_in new ≡ true) × (flat_map read_by uses ≡ []) × (handed_of n deeds ≡ []))

-- No socket carries a connection, before or after: nothing was taken of it, and nothing was handed on as its bytes.
pub record IsUncarried {T : Type 0} (n : ℕ) (deeds : List Deed) (old new : Option (Core T)) : Type 0 where
  pub before : old ≡ None
  pub after : new ≡ None
  pub taken : taken_of n deeds ≡ []
  pub handed : handed_of n deeds ≡ []

-- One socket carried that connection, or none did.
abbrev pub IsCarriedIn : {S T : Type 0} → (T → Option (List ℕ)) → (T → Option (List ℕ)) → ℕ → List Deed → Seen S T → Seen S T → Type 0
IsCarriedIn contents remaining n deeds from to =
    IsCarried contents remaining n deeds from.host.tried to.host.tried (core_of n from.sockets) (core_of n to.sockets)
    ⊎ IsUncarried n deeds (core_of n from.sockets) (core_of n to.sockets)

-- Turns at those moments were one run of the broker, and each connection was carried by one socket in it, or by none. The sockets stand by
-- rising number, so no two carry one connection.
pub record AreCarried {S T : Type 0} (disk : S → Disk) (known : Deed → S → Type 0) (contents remaining : T → Option (List ℕ))
    (nows : List ℕ) (from to : Seen S T) : Type 0 where
  pub run : IsRunThrough disk known nows from.host to.host
  pub in_order : IsInOrder to
  pub each : (n : ℕ) → IsCarriedIn contents remaining n run.deeds from to

-- 4. What is sent

-- the first bytes are in front of all
abbrev pub IsInFront : List ℕ → List ℕ → Type 0
IsInFront first all = (rest : List ℕ) × (all ≡ first ++ rest)

-- the bytes that connections got
abbrev pub bytes_got : List Sent → List ℕ
bytes_got got = flat_map (λ s. s.bytes) got

-- What was written to the stream of a connection, if a socket carried it, is in front of those bytes.
abbrev pub IsSent : {S T : Type 0} → (T → Option (List ℕ)) → (T → Option (List ℕ)) → ℕ → List Deed → Seen S T → Seen S T → List ℕ → Type 0
IsSent contents remaining n deeds from to all =
    (c : IsCarried contents remaining n deeds from.host.tried to.host.tried (core_of n from.sockets) (core_of n to.sockets))
    → IsInFront (flat_map written_by c.uses) all

-- What clients are sent, where tenants are kept apart.
pub record AreSent {S T : Type 0} (contents remaining : T → Option (List ℕ)) (deeds : List Deed) (from to : Seen S T) : Type 0 where
  -- Each connection of a tenant is sent what the machine of that tenant alone writes to it, in order and up to some byte, unless something was
  -- refused to the tenant or to a connection that was not bound.
  pub owned : (t : ℕ) → IsCalmFor t from.host.broker.state to.host.broker.state → (n : ℕ)
      → owned_by t (events_of deeds) from.host.broker.state n ≡ true
      → IsSent contents remaining n deeds from to (bytes_got (those_sent (only n) (alone t (events_of deeds) from.host.broker.state)))
  -- One without owner is sent what a machine with nothing in it but that connection writes, unless something was refused to one that was not
  -- bound.
  pub unowned : IsSound from.host.broker.state → (n : ℕ) → IsUnowned n (events_of deeds) from.host.broker.state
      → IsCalm from.host.broker.state.unbound_refusals to.host.broker.state.unbound_refusals
      → IsSent contents remaining n deeds from to (bytes_got (those_sent (only n) (alone_unowned n (events_of deeds) from.host.broker.state)))

-- Nobody is connected, with a socket or without.
pub record IsAlone {S T : Type 0} (x : Seen S T) : Type 0 where
  pub sockets : x.sockets ≡ []
  pub lines : x.host.broker.state.lines ≡ []
  pub tried : x.host.broker.state.last ≤ x.host.tried

-- Clients were served in turns at those moments: each connection was carried by one socket, or by none. Where the store is honest to the
-- end, they were sent what the machines write.
pub record AreClientsServed {S T : Type 0} (disk : S → Disk) (known : Deed → S → Type 0) (contents remaining : T → Option (List ℕ))
    (nows : List ℕ) (from to : Seen S T) : Type 0 where
  pub carried : AreCarried disk known contents remaining nows from to
  pub sent : is_honest disk to.host.broker → AreSent contents remaining carried.run.deeds from to
