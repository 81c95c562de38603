-- Which holder has the socket of each connection.
use Rattle.std.specs.Prelude.{◌≡◌, ◌≢◌, ◌&&◌, ℕ, List, map, Bool, false, not, nat_eq, if◌then◌else◌, Option, Some, None}
use Rattle.std.specs.Coded.{Coded-set, coded_option, coded_ℕ}
use Rattle.std.specs.List.{count_by}
use Rattle.kb_node.specs.declared.socket.Socket.{Socket}
use Rattle.kb_node.specs.Commits.{Host}
use Rattle.kb_node.specs.Cores.{cores, seen}
use Rattle.kb_node.specs.Numbers.{IsInOrder, Rise-prop, socket_of}
use Rattle.kb_node.specs.SocketShares.{Seats, holder_of, seat_among}

-- the holder that has a socket whose connection is open: those that have not logged in, and then its tenant, where that has a share and let
-- it in
abbrev pub seat_of : {T : Type 0} → ℕ → Socket T → Option ℕ
seat_of tenants s = if s.is_bound then seat_among tenants s.tenant else Some tenants

-- nobody has a connection without a socket, nor one that is closed
abbrev pub seat_in : {T : Type 0} → ℕ → Option (Socket T) → Option ℕ
seat_in tenants None = None
seat_in tenants (Some s) = if s.is_ended then None else seat_of tenants s

-- The sockets stand by rising number, and each connection is counted for the holder that has its open socket, and for nobody where it has none.
pub record AreSeated {S T : Type 0} (host : Host S) (seats : Seats) (sockets : List (Socket T)) : Type 0 where
  pub in_order : IsInOrder (seen host sockets)
  pub seated : (n : ℕ) → holder_of n seats.sockets ≡ seat_in seats.tenants (socket_of n sockets)

-- that tenant let it in
abbrev pub is_let_in_by : ℕ → Option ℕ → Bool
is_let_in_by tenant None = false
is_let_in_by tenant (Some t) = nat_eq t tenant

-- how many of the sockets are open and bound to a tenant, which let them in
abbrev pub open_with : {T : Type 0} → ℕ → List (Socket T) → ℕ
open_with tenant sockets = count_by (λ s. not s.is_ended && (s.is_bound && is_let_in_by tenant s.tenant)) sockets

-- how many of them are open and have not logged in
abbrev pub open_strangers : {T : Type 0} → List (Socket T) → ℕ
open_strangers sockets = count_by (λ s. not s.is_ended && not s.is_bound) sockets

-- a socket whose connection is open has changed, and its seat with it: no other seat did
pub record IsReseated {T : Type 0} (s t : Socket T) (old new : Seats) : Type 0 where
  pub tenants : new.tenants ≡ old.tenants
  pub seat : holder_of s.connection old.sockets ≡ seat_of old.tenants s → holder_of s.connection new.sockets ≡ seat_of old.tenants t
  pub others : (n : ℕ) → n ≢ s.connection → holder_of n new.sockets ≡ holder_of n old.sockets

-- The same holder has a socket as long as its connection is open.
abbrev pub KeepsSeat : {T : Type 0} → Socket T → Socket T → Type 0
KeepsSeat s t = (t.is_bound ≡ s.is_bound) × (t.tenant ≡ s.tenant)

-- the connection of a socket has no seat where that is closed, and no other seat changes
pub record FreesSeat {T : Type 0} (s : Socket T) (old new : Seats) : Type 0 where
  pub tenants : new.tenants ≡ old.tenants
  pub seat : holder_of s.connection new.sockets ≡ (if s.is_ended then None else holder_of s.connection old.sockets)
  pub others : (n : ℕ) → n ≢ s.connection → holder_of n new.sockets ≡ holder_of n old.sockets

-- so many facts have one proof at most
pub AreSeated-prop : {S T : Type 0} (host : Host S) (seats : Seats) (sockets : List (Socket T)) → IsProp (AreSeated host seats sockets)
AreSeated-prop host seats sockets a b = λ i. record {
  in_order = Rise-prop 0 host.tried (map (λ c. c.connection) (cores sockets)) a.in_order b.in_order i;
  seated = λ n. Coded-set (coded_option coded_ℕ) (holder_of n seats.sockets) (seat_in seats.tenants (socket_of n sockets)) (a.seated n) (b.seated n) i;
}
