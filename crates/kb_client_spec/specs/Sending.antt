-- A producer and its receiver, with a network between them.
use Rattle.std.specs.Prelude.{◌≡◌, ◌≤◌, ◌<◌, ◌+◌, ℕ, ℤ, List, [], ◌∷◌, ◌++◌, length, map, take, drop, Bool, true, Option, Some, None}
use Rattle.std.specs.Prelude.{Result, Ok, Err, IsUtf8, FitsSigned}
use Rattle.std.specs.Int.{w32}
use Rattle.kb_wire.specs.Codec.{int32, blob}
use Rattle.kb_api_group.specs.Frames.{Front, Whole, Partial, TooSmall, TooLarge}
use Rattle.kb_api_group.specs.ClientFrames.{front}
use Rattle.kb_api_group.specs.declared.plain.PlainLogin.{PlainLogin}
use Rattle.kb_client.specs.declared.fault.ClientFault.{ClientFault}
use Rattle.kb_client.specs.declared.fault.ClientFault.TheVariants as faults
use Rattle.kb_client.specs.Sent.{Line, Target, HasShortTexts}
use Rattle.kb_client.specs.Producer.{Producer, new_producer, connected, is_idle, TakesLine, Inputs, OutputsText}
use Rattle.kb_client_spec.specs.Receiver.{Receiver, Greets, Shut, ReceiverOutcome, request, outcome}

-- 1. The world

pub record Delivery : Type 0 where
  pub core : Producer
  -- the lines that were handed in and taken, in order
  pub handed : List Line
  -- the bytes that are under way to the receiver
  pub requests : List ℕ
  -- the bytes that are under way to the producer
  pub answers : List ℕ
  pub receiver : Receiver

-- what happens: each call of the producer with its answer, and what the network and the receiver do
pub data Event : Type 0 where
  -- a line is handed in
  Hands : (line : Line) (result : Result (Unit {0}) ClientFault) → Event
  -- the output of the producer is taken, and sent
  Sends : (result : Result (List ℕ) ClientFault) → Event
  -- so many bytes come to the receiver, or all that are under way
  Arrives : (n : ℕ) → Event
  -- the receiver reads the request in front
  Serves : Event
  -- so many bytes come to the producer, or all that are under way
  Returns : (n : ℕ) (result : Result (Unit {0}) ClientFault) → Event
  -- the connection ends, and another begins
  Reconnects : Event

-- 2. What an event does

abbrev pub if_taken : Result (Unit {0}) ClientFault → Line → List Line → List Line
if_taken (Ok u) line handed = handed ++ line ∷ []
if_taken (Err fault) line handed = handed

abbrev pub if_given : Result (List ℕ) ClientFault → List ℕ
if_given (Ok text) = text
if_given (Err fault) = []

-- what is under way once a piece came: want of memory leaves it
abbrev pub if_come : Result (Unit {0}) ClientFault → ℕ → List ℕ → List ℕ
if_come (Ok u) n bytes = drop n bytes
if_come (Err faults.Denied) n bytes = drop n bytes
if_come (Err (faults.Code code)) n bytes = drop n bytes
if_come (Err faults.Protocol) n bytes = drop n bytes
if_come (Err faults.LineTooLong) n bytes = drop n bytes
if_come (Err faults.Memory) n bytes = bytes

-- the text of a reply: its size, the correlation id of its request, and its body
abbrev pub reply_text : ℤ → Option (List ℕ) → List ℕ
reply_text id None = []
reply_text id (Some body) = blob.written (int32.written id ++ body)

abbrev pub arrived : ℕ → Receiver → List ℕ → Receiver
arrived n r bytes = record r { unread = r.unread ++ take n bytes }

abbrev pub with_outcome : ℤ → ReceiverOutcome → Delivery → Delivery
with_outcome id o w = record w { receiver = o.receiver; answers = w.answers ++ reply_text id o.reply }

-- a bad size shuts the connection
abbrev pub served_at : Front → Delivery → Delivery
served_at (Whole frame rest) w =
    with_outcome (request frame).correlation_id (outcome (request frame).asked (record w.receiver { unread = rest })) w
served_at Partial w = w
served_at TooSmall w = record w { receiver = record w.receiver { login = Shut } }
served_at TooLarge w = record w { receiver = record w.receiver { login = Shut } }

-- of a connection that ended nothing is left, and the receiver keeps what it stored
abbrev pub cut : Receiver → Receiver
cut r = record r { login = Greets; unread = [] }

-- Each call of the producer is what its contract says.
abbrev pub Steps : Event → Delivery → Delivery → Type 0
Steps (Hands line result) old new =
    TakesLine old.core line result new.core × (new ≡ record old { core = new.core; handed = if_taken result line old.handed })
Steps (Sends result) old new =
    OutputsText (λ text. text) old.core result new.core × (new ≡ record old { core = new.core; requests = old.requests ++ if_given result })
Steps (Arrives n) old new = new ≡ record old { requests = drop n old.requests; receiver = arrived n old.receiver old.requests }
Steps Serves old new = new ≡ served_at (front old.receiver.unread) old
Steps (Returns n result) old new =
    Inputs old.core (take n old.answers) result new.core × (new ≡ record old { core = new.core; answers = if_come result n old.answers })
Steps Reconnects old new = new ≡ record old { core = connected old.core; requests = []; answers = []; receiver = cut old.receiver }

abbrev pub Runs : List Event → Delivery → Delivery → Type 0
Runs [] first last = last ≡ first
Runs (e ∷ es) first last = (next : Delivery) × Steps e first next × Runs es next last

-- 3. Where it begins

-- the texts and numbers are values of their Rust types
pub record IsTyped (target : Target) (create : Option ℤ) : Type 0 where
  pub short : HasShortTexts target
  pub topic : IsUtf8 target.topic
  pub partition : FitsSigned w32 target.partition
  pub partitions : (n : ℤ) → create ≡ Some n → FitsSigned w32 n

-- nothing was handed in, and nothing is stored
abbrev pub new_delivery : Target → Option ℤ → List PlainLogin → Bool → ℕ → Delivery
new_delivery target create users created next_id = record {
  core = new_producer target create;
  handed = [];
  requests = [];
  answers = [];
  receiver = record { users = users; login = Greets; unread = []; created = created; next_id = next_id; stored = [] };
}

-- 4. What is promised

abbrev pub values : Delivery → List (List ℕ)
values w = map (λ s. s.value) w.receiver.stored

-- The values are the first of the lines that were handed in, in order, each once: those that are acknowledged and at most one more.
pub record IsDelivered (w : Delivery) : Type 0 where
  pub in_order : values w ≡ take (length (values w)) (map (λ l. l.value) w.handed)
  pub acknowledged : w.core.acknowledged ≤ length (values w)
  pub one_more : length (values w) ≤ w.core.acknowledged + 1
  -- where nothing is left to do, each line is stored and acknowledged
  pub idle : is_idle w.core.stage w.core.lines ≡ true → (values w ≡ map (λ l. l.value) w.handed) × (w.core.acknowledged ≡ length w.handed)

-- a line is taken, or too long, or refused for want of memory
abbrev pub IsTaken : Line → Result (Unit {0}) ClientFault → Type 0
IsTaken line (Ok u) = Unit {0}
IsTaken line (Err faults.LineTooLong) = 1000000 < length line.value
IsTaken line (Err faults.Memory) = Unit {0}
IsTaken line (Err faults.Denied) = ⊥
IsTaken line (Err (faults.Code code)) = ⊥
IsTaken line (Err faults.Protocol) = ⊥

-- any other call is refused for want of memory alone
abbrev pub OnlyMemoryFails : {A : Type 0} → Result A ClientFault → Type 0
OnlyMemoryFails (Ok a) = Unit {0}
OnlyMemoryFails (Err faults.Memory) = Unit {0}
OnlyMemoryFails (Err faults.LineTooLong) = ⊥
OnlyMemoryFails (Err faults.Denied) = ⊥
OnlyMemoryFails (Err (faults.Code code)) = ⊥
OnlyMemoryFails (Err faults.Protocol) = ⊥

-- no call answers a fault that stands
abbrev pub HasNoFault : List Event → Type 0
HasNoFault [] = Unit {0}
HasNoFault (Hands line result ∷ es) = IsTaken line result × HasNoFault es
HasNoFault (Sends result ∷ es) = OnlyMemoryFails result × HasNoFault es
HasNoFault (Arrives n ∷ es) = HasNoFault es
HasNoFault (Serves ∷ es) = HasNoFault es
HasNoFault (Returns n result ∷ es) = OnlyMemoryFails result × HasNoFault es
HasNoFault (Reconnects ∷ es) = HasNoFault es
