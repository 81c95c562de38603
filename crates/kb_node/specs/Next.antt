-- What an open socket waits for, and what is so of one that is looked at.
use Rattle.std.specs.Prelude.{ℕ, ◌-◌, ◌&&◌, ◌||◌, Bool, not, length, is_none, is_some, nat_eq, nat_lt, vec_len, if◌then◌else◌}
use Rattle.kb_isolation_spec.specs.Broker.{BrokerState}
use Rattle.kb_node.specs.declared.socket.Next.{Next}
use Rattle.kb_node.specs.declared.socket.Next.TheVariants as nexts
use Rattle.kb_node.specs.declared.socket.Socket.{Socket}
use Rattle.kb_node.specs.Pieces.{unhanded}
use Rattle.kb_node.specs.Requests.{is_part, is_short, is_under_way}
use Rattle.kb_node.specs.Sockets.{can_ask, is_held, is_waiting, speaks_of}

-- An open socket with something unwritten waits for the system. Else one whose login failed waits for its time, and one whose request is not
-- answered for that. Else it can go on, where it may be read or has something to hand on, and else it waits for the system.
abbrev pub waits_for : {T : Type 0} → Socket T → BrokerState → Next
waits_for s b =
    if nat_lt 0 (vec_len s.output - s.written) then nexts.System
    else if is_held s.may_answer s.connection b then nexts.Delay
    else if is_waiting s.connection b then nexts.Answer
    else if s.can_read || not (is_short s.input.progress.left (unhanded s.input)) then nexts.Turn
    else nexts.System

-- its login failed, and it is not noted yet since when that waits for its answer
abbrev pub is_to_be_held : {T : Type 0} → Socket T → Bool
is_to_be_held s = s.is_denied && not s.is_ended && not s.may_answer && is_none s.held

-- a request may be handed on, and the broker has nothing to say
abbrev pub is_quiet : {T : Type 0} → Socket T → BrokerState → Bool
is_quiet s b = can_ask s.is_over (vec_len s.output - s.written) s.connection b && not (speaks_of s.connection b)

-- Some of a request came, and not all. One whose bytes came before its size was there goes on to be so.
abbrev pub is_asking : {T : Type 0} → Socket T → Bool
is_asking s = is_under_way s.input.progress.left (unhanded s.input) || (is_some s.begun && is_part s.input.progress.left (unhanded s.input))

-- it has logged in, no request is under way, and nothing is to be written or waited for
abbrev pub is_idle : {T : Type 0} → Socket T → BrokerState → Bool
is_idle s b = s.is_bound && is_quiet s b && nat_eq (length (unhanded s.input)) 0 && not (nat_lt 0 s.input.progress.left)
