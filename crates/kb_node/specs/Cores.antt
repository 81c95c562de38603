-- What sockets are to their edge, whatever it remembers of their turns.
use Rattle.std.specs.Prelude.{◌≡◌, ℕ, List, map, Bool, not}
use Rattle.std.specs.List.{filter}
use Rattle.kb_node.specs.declared.socket.Socket.{Socket}
use Rattle.kb_node.specs.Carries.{unhanded_of, unwritten_of}
use Rattle.kb_node.specs.Commits.{Host}

-- the connection of a socket, its stream, what was said to it and is not written, what was read on it and is not handed on, whether some of
-- that was lost, and whether its connection is closed
pub record Core (T : Type 0) : Type 0 where
  pub connection : ℕ
  pub stream : T
  pub unwritten : List ℕ
  pub unhanded : List ℕ
  pub is_lost : Bool
  pub is_ended : Bool

abbrev pub core : {T : Type 0} → Socket T → Core T
core s = record {
  connection = s.connection;
  stream = s.stream;
  unwritten = unwritten_of s;
  unhanded = unhanded_of s;
  is_lost = s.is_lost;
  is_ended = s.is_ended;
}

abbrev pub cores : {T : Type 0} → List (Socket T) → List (Core T)
cores sockets = map core sockets

-- those whose connections are not closed
abbrev pub open_ones : {T : Type 0} → List (Core T) → List (Core T)
open_ones cs = filter (λ c. not c.is_ended) cs

-- A host with the sockets of its connections.
pub record Seen (S T : Type 0) : Type 0 where
  pub host : Host S
  pub sockets : List (Core T)

abbrev pub seen : {S T : Type 0} → Host S → List (Socket T) → Seen S T
seen host sockets = record { host = host; sockets = cores sockets }
