-- Which socket carries a connection.
use Rattle.std.specs.Prelude.{◌<◌, ◌≤◌, ℕ, List, [], ◌∷◌, map, nat_eq, Option}
use Rattle.std.specs.Coded.{×_prop, le_prop}
use Rattle.std.specs.List.{find}
use Rattle.kb_node.specs.declared.socket.Socket.{Socket}
use Rattle.kb_node.specs.Cores.{Seen}

-- the numbers rise, from above the first to at most the last
abbrev pub Rise : ℕ → ℕ → List ℕ → Type 0
Rise low last [] = low ≤ last
Rise low last (n ∷ ns) = (low < n) × Rise n last ns

pub Rise-prop : (low last : ℕ) (ns : List ℕ) → IsProp (Rise low last ns)
Rise-prop low last [] = le_prop
Rise-prop low last (n ∷ ns) = ×_prop le_prop (Rise-prop n last ns)

-- The sockets of an edge stand by rising number of their connections, of which none is above what was tried. So no two carry one connection.
abbrev pub IsInOrder : {S T : Type 0} → Seen S T → Type 0
IsInOrder x = Rise 0 x.host.tried (map (λ c. c.connection) x.sockets)

-- the socket of a connection, if one carries it
abbrev pub socket_of : {T : Type 0} → ℕ → List (Socket T) → Option (Socket T)
socket_of n sockets = find (λ s. nat_eq s.connection n) sockets
