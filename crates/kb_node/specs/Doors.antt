-- The addresses that an edge listens on.
use Rattle.std.specs.Prelude.{◌≡◌, ◌⊎◌, ◌++◌, ℕ, List, [], ◌∷◌, nat_eq, slice_get, if◌then◌else◌, Some}
use Rattle.std.specs.Net.Socket.{SameFlowAndScope, socket_ip, socket_port}
use Rattle.std.specs.declared.net.SocketAddr.{SocketAddr}

-- the port of the first of them, or 0 where there is none
abbrev pub first_port : List SocketAddr → ℕ
first_port [] = 0
first_port (address ∷ addresses) = socket_port address

-- an address, but with that port where it names none
pub record IsAtPort (given : ℕ) (address at : SocketAddr) : Type 0 where
  pub ip : socket_ip at ≡ socket_ip address
  pub port : socket_port at ≡ (if nat_eq (socket_port address) 0 then given else socket_port address)
  pub rest : SameFlowAndScope address at

-- the listeners, and the address of each
pub record Listening (L : Type 0) : Type 0 where
  pub listeners : List L
  pub addresses : List SocketAddr

-- an address is listened on
abbrev pub Lists : {L : Type 0} → SocketAddr → Listening L → Type 0
Lists address doors = (place : ℕ) × (slice_get doors.addresses place ≡ Some address)

-- one more listener is there, behind the others, with its address
pub record HasOneMore {L : Type 0} (old new : Listening L) : Type 0 where
  pub listener : L
  pub address : SocketAddr
  pub behind : new ≡ record { listeners = old.listeners ++ listener ∷ []; addresses = old.addresses ++ address ∷ [] }

-- An address was listened on, and all stays; or it was not, and one more listener is there. Where it names no port, it is that of the others.
pub record IsListenedOn {L : Type 0} (address : SocketAddr) (old new : Listening L) : Type 0 where
  pub at : SocketAddr
  pub asked : IsAtPort (first_port old.addresses) address at
  pub listens : (Lists at old × (new ≡ old)) ⊎ (¬ (Lists at old) × HasOneMore old new)
