-- Where the requests in a connection's bytes end.
use Rattle.std.specs.Prelude.{ℕ, List, ◌+◌, ◌-◌, ◌^◌, length, take, max, min, Bool, not, ◌&&◌, ◌||◌, nat_eq, nat_le, nat_lt, if◌then◌else◌}
use Rattle.std.specs.Int.{w32, from_be_bytes}
use Rattle.kb_node.specs.declared.input.Progress.{Progress}

-- How many bytes the request in front still has, its size among them, where so many are left of one that was begun (0: none was).
-- It is 0 too where fewer than the four bytes of its size are there.
unfoldable pub request_end : ℕ → List ℕ → ℕ
request_end left s = if nat_lt 0 left then left else (if nat_lt (length s) 4 then 0 else 4 + from_be_bytes w32 (take 4 s))

-- how many bytes at the front are handed on: none past the end of the request, nor more than there is room for
abbrev pub piece_len : ℕ → ℕ → List ℕ → ℕ
piece_len left room s = min (min (request_end left s) (length s)) room

-- how many bytes the request in front has that nothing was handed on of: 0 where one is begun, or its size is not there
abbrev pub awaited : ℕ → List ℕ → ℕ
awaited left s = if nat_lt 0 left then 0 else request_end 0 s

-- How many bytes the request has that is begun once so many of those in front are handed on, where it had that size if it was begun
-- before: 0 where it is whole then.
abbrev pub begun_size : ℕ → ℕ → ℕ → List ℕ → ℕ
begun_size left size count s = if nat_lt count (request_end left s) then (if nat_lt 0 left then size else request_end left s) else 0

-- how far a connection is in a request once so many of the bytes in front are handed on
abbrev pub gone_on : ℕ → List ℕ → Progress → Progress
gone_on count s p = record { left = request_end p.left s - count; size = begun_size p.left p.size count s }

-- Nothing can be handed on before more is read: nothing is there, or a request begins and not all of its size is there.
abbrev pub is_short : ℕ → List ℕ → Bool
is_short left s = nat_eq (length s) 0 || (nat_eq left 0 && nat_lt (length s) 4)

-- Some of a request came, and it is to be read on: it is begun, or some of its size is there.
abbrev pub is_under_way : ℕ → List ℕ → Bool
is_under_way left s = nat_lt 0 left || (nat_lt 0 (length s) && nat_lt (length s) 4)

-- the size of the request in front is there, and not all of it, where nothing of it was handed on
abbrev pub is_part : ℕ → List ℕ → Bool
is_part left s = nat_lt (length s) (awaited left s)

-- How far may be read where no request begins of more than `most` bytes: where none is begun no further than that, but as far as a request's
-- size.
abbrev pub reach : ℕ → ℕ → ℕ
reach left most = if nat_lt 0 left then 2 ^ 64 - 1 else max most 4

-- the most bytes of a request before the login, the four of its size not among them
abbrev pub stranger_frame : ℕ
stranger_frame = 65536

-- A request of so many bytes, those of its size among them, is too long for a socket that has not logged in.
abbrev pub is_too_long : Bool → ℕ → Bool
is_too_long is_bound size = not is_bound && nat_lt (4 + stranger_frame) size

-- a request of so many bytes may begin, where none begins of more than `most`
abbrev pub may_begin : Bool → ℕ → ℕ → Bool
may_begin is_bound most size = not (is_too_long is_bound size) && nat_le size most
