-- Scripts: what a text says, line by line, and what is written of the steps of a broker.
use Rattle.std.specs.Prelude.{◌≡◌, ◌≢◌, ℕ, ◌+◌, ◌^◌, ◌==◌, ◌&&◌, ◌||◌, List, [], ◌∷◌, ◌++◌, length, drop, codes, decimal, nat_lt, nat_le}
use Rattle.kb_wire.specs.declared.clock.TheConstants.{MAX_CLOCK}
use Rattle.std.specs.Prelude.{Bool, true, false, not, if◌then◌else◌, Option, Some, None, Result, Ok, Err, bytes_eq}
use Rattle.std.specs.List.{before_first, concat, position_or_len}
use Rattle.std.specs.Str.{all_ascii_digits}
use Rattle.std.specs.Str.Parse.{digits_value}
use Rattle.std.specs.Io.BufRead.{strip_last}
use Rattle.hex.specs.Hex.{decode_of, encode_lower}
use Rattle.hex.specs.declared.error.FromHexError.{FromHexError}
use Rattle.kb_isolation_spec.specs.Machine.{Happening, Opens, Comes, Closes, Moment, Sent}
use Rattle.kb_isolation_spec.specs.Broker.{BrokerState}
use Rattle.kb_isolation_spec.specs.Calls.{is_open}
use Rattle.kb_broker.specs.declared.script.ScriptFault.{ScriptFault}
use Rattle.kb_broker.specs.declared.script.ScriptFault.TheVariants as faults
use Rattle.kb_broker.specs.declared.script.line.Line.{Line}
use Rattle.kb_broker.specs.declared.script.line.Line.TheVariants as lines

-- 1. A line, without its line feed

-- what a line says: an event, nothing, or it is none of a script
pub data Told : Type 0 where
  Event : (e : Happening) → Told
  Nothing : Told
  Wrong : Told

-- what stands before the first space, and what behind it
abbrev pub word : List ℕ → List ℕ
word text = before_first (λ c. c == 32) text

abbrev pub behind : List ℕ → List ℕ
behind text = drop (position_or_len (λ c. c == 32) text + 1) text

-- the number that decimal digits write; one above the greatest u64 is in place nowhere
abbrev pub number : List ℕ → Option ℕ
number text =
    if nat_lt 0 (length text) && all_ascii_digits text && nat_lt (digits_value 10 text) (2 ^ 64) then Some (digits_value 10 text) else None

-- a line of a word and a number
abbrev pub told_number : List ℕ → ℕ → Told
told_number name n =
    if bytes_eq name (codes "open") then Event (Opens n)
    else if bytes_eq name (codes "close") then Event (Closes n)
    else if bytes_eq name (codes "at") then Event (Moment n)
    else Wrong

abbrev pub if_number : List ℕ → Option ℕ → Told
if_number name None = Wrong
if_number name (Some n) = told_number name n

-- at least one byte comes
abbrev pub piece_comes : ℕ → Result (List ℕ) FromHexError → Told
piece_comes n (Err e) = Wrong
piece_comes n (Ok []) = Wrong
piece_comes n (Ok (x ∷ xs)) = Event (Comes n (x ∷ xs))

abbrev pub comes : Option ℕ → Result (List ℕ) FromHexError → Told
comes None piece = Wrong
comes (Some n) piece = piece_comes n piece

-- by the first word
abbrev pub told_by : List ℕ → List ℕ → Told
told_by name rest =
    if bytes_eq name (codes "in") then comes (number (word rest)) (decode_of (behind rest)) else if_number name (number rest)

unfoldable pub told : List ℕ → Told
told text = if length text == 0 then Nothing else told_by (word text) (behind text)

-- a line that was read
abbrev pub told_of : Line → Told
told_of (lines.Open n) = Event (Opens n)
told_of (lines.In n piece) = Event (Comes n piece.items)
told_of (lines.Close n) = Event (Closes n)
told_of (lines.At now) = Event (Moment now)
told_of lines.Empty = Nothing
told_of lines.Bad = Wrong

-- 2. Where a script stands

-- which connections are open, and the greatest number that one has had
pub record Place : Type 0 where
  pub open_now : ℕ → Bool
  pub last : ℕ

-- that of a broker
abbrev pub here : BrokerState → Place
here b = record { open_now = λ k. is_open k b; last = b.last }

-- whether an event may happen there
abbrev pub is_in_place : Place → Happening → Bool
is_in_place p (Opens n) = nat_lt p.last n
is_in_place p (Comes n piece) = p.open_now n
is_in_place p (Closes n) = p.open_now n
is_in_place p (Moment now) = nat_le now MAX_CLOCK

-- whether a line says nothing, or an event that may happen there
abbrev pub is_placed : Place → Told → Bool
is_placed p (Event e) = is_in_place p e
is_placed p Nothing = true
is_placed p Wrong = false

abbrev pub after_event : Happening → Place → Place
after_event (Opens n) p = record p { open_now = λ k. k == n || p.open_now k; last = n }
after_event (Comes n piece) p = p
after_event (Closes n) p = record p { open_now = λ k. not (k == n) && p.open_now k }
after_event (Moment now) p = p

-- what a line comes to: an event, nothing, or the script ends there
pub data Course : Type 0 where
  Plays : (e : Happening) → Course
  Passes : Course
  Stops : (fault : ScriptFault) → Course

abbrev pub course_of : ℕ → Place → Told → Course
course_of number p Nothing = Passes
course_of number p Wrong = Stops (faults.BadLine number)
course_of number p (Event e) = if is_in_place p e then Plays e else Stops (faults.BadLine number)

abbrev pub after_course : Course → Place → Place
after_course (Plays e) p = after_event e p
after_course Passes p = p
after_course (Stops fault) p = p

-- 3. How long a script may be

-- the most lines, the most bytes, and the most bytes of a line without its line feed
abbrev pub MOST_LINES : ℕ
MOST_LINES = 1000000

abbrev pub MOST_BYTES : ℕ
MOST_BYTES = 1073741824

abbrev pub LONGEST_LINE : ℕ
LONGEST_LINE = 8400000

-- whether a script may have one line more behind those lines, of so many bytes
abbrev pub may_add_line : List (List ℕ) → ℕ → Bool
may_add_line before bytes = nat_lt (length before) MOST_LINES && nat_le (length (concat before) + bytes) MOST_BYTES

-- a line, with its line feed or without, by which lengths have room: it is bad where it is longer than a line may be and its first byte
-- past that has room, else the script is too long where the line has none
abbrev pub fault_where : ℕ → (ℕ → Bool) → List ℕ → Option ScriptFault
fault_where number fits line =
    if nat_lt LONGEST_LINE (length (strip_last 10 line)) && fits (LONGEST_LINE + 1) then Some (faults.BadLine number)
    else if fits (length line) then None
    else Some faults.TooLong

-- a line behind those lines
abbrev pub length_fault : List (List ℕ) → List ℕ → Option ScriptFault
length_fault before line = fault_where (length before + 1) (may_add_line before) line

-- a line that is taken where so many bytes are left
abbrev pub fault_within : ℕ → ℕ → List ℕ → Option ScriptFault
fault_within number room line = fault_where number (λ bytes. nat_le bytes room) line

-- what a fault in taking a line says: of the reader and of memory nothing
abbrev pub IsLengthFault : Option ScriptFault → ScriptFault → Type 0
IsLengthFault found (faults.BadLine k) = found ≡ Some (faults.BadLine k)
IsLengthFault found faults.TooLong = found ≡ Some faults.TooLong
IsLengthFault found faults.Read = Unit {0}
IsLengthFault found faults.Write = ⊥
IsLengthFault found faults.Memory = Unit {0}

-- a byte is left, and none may be taken
abbrev pub IsNoRoom : ℕ → List ℕ → ScriptFault → Type 0
IsNoRoom room xs (faults.BadLine k) = ⊥
IsNoRoom room xs faults.TooLong = (room ≡ 0) × (xs ≢ [])
IsNoRoom room xs faults.Read = Unit {0}
IsNoRoom room xs faults.Write = ⊥
IsNoRoom room xs faults.Memory = Unit {0}

-- 4. A whole script

-- its lines, each with its line feed: the last may have none
abbrev pub onto : ℕ → List (List ℕ) → List (List ℕ)
onto x [] = (x ∷ []) ∷ []
onto x (line ∷ rest) = (x ∷ line) ∷ rest

abbrev pub pieces : List ℕ → List (List ℕ)
pieces [] = []
pieces (x ∷ xs) = if x == 10 then (x ∷ []) ∷ pieces xs else onto x (pieces xs)

-- the events of a script, and the fault that it ends with, if any
pub record Script : Type 0 where
  pub events : List Happening
  pub fault : Option ScriptFault

abbrev pub and_then : Course → Script → Script
and_then (Plays e) rest = record { events = e ∷ rest.events; fault = rest.fault }
and_then Passes rest = rest
and_then (Stops fault) rest = record { events = []; fault = Some fault }

abbrev pub course_by : ℕ → Place → List ℕ → Option ScriptFault → Course
course_by number p line (Some fault) = Stops fault
course_by number p line None = course_of number p (told (strip_last 10 line))

-- a line behind those lines, at that place
unfoldable pub course : List (List ℕ) → Place → List ℕ → Course
course before p line = course_by (length before + 1) p line (length_fault before line)

unfoldable pub read_from : List (List ℕ) → Place → List (List ℕ) → Script
read_from before p [] = record { events = []; fault = None }
read_from before p (line ∷ rest) =
    and_then (course before p line) (read_from (before ++ line ∷ []) (after_course (course before p line) p) rest)

-- what lines say to a broker, and what a text does
abbrev pub said_by : BrokerState → List (List ℕ) → Script
said_by b lines = read_from [] (here b) lines

abbrev pub script : BrokerState → List ℕ → Script
script b text = said_by b (pieces text)

-- 5. What is written

abbrev pub out_line : ℕ → List ℕ → List ℕ
out_line n bytes = if length bytes == 0 then [] else codes "out " ++ decimal n ++ codes " " ++ encode_lower bytes ++ codes "\n"

abbrev pub shut_line : ℕ → Bool → List ℕ
shut_line n shut = if shut then codes "shut " ++ decimal n ++ codes "\n" else []

-- of a connection: what it got, and whether it was shut in this step
abbrev pub sent_text : ℕ → List ℕ → Bool → List ℕ
sent_text n bytes shut = out_line n bytes ++ shut_line n shut

abbrev pub step_text : List Sent → List ℕ
step_text [] = []
step_text (s ∷ ss) = sent_text s.number s.bytes s.shut ++ step_text ss

-- of all steps
abbrev pub script_text : List (List Sent) → List ℕ
script_text [] = []
script_text (step ∷ steps) = step_text step ++ script_text steps
