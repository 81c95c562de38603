-- What a producer has, and what each call makes of it.
use Rattle.std.specs.Prelude.{◌≡◌, ◌≤◌, ◌<◌, ◌+◌, ◌%◌, ◌^◌, ◌||◌, ℕ, ℤ, pos, Bool, true, false, if◌then◌else◌, List, [], ◌∷◌, ◌++◌, length}
use Rattle.std.specs.Prelude.{Option, Some, None, Result, Ok, Err}
use Rattle.std.specs.Ordering.{int_eq}
use Rattle.kb_wire.specs.ErrorCode.{code_of}
use Rattle.kb_wire.specs.declared.error_code.ErrorCode.TheVariants.{SaslAuthenticationFailed, TopicAlreadyExists}
use Rattle.kb_wire.specs.declared.fault.WireFault.{WireFault}
use Rattle.kb_api_group.specs.Frames.{Front, Whole, Partial, TooSmall, TooLarge}
use Rattle.kb_api_group.specs.ClientFrames.{front}
use Rattle.kb_client.specs.declared.fault.ClientFault.{ClientFault}
use Rattle.kb_client.specs.declared.fault.ClientFault.TheVariants as faults
use Rattle.kb_client.specs.declared.stage.ProducerId.{ProducerId}
use Rattle.kb_client.specs.declared.stage.Ending.{Ending}
use Rattle.kb_client.specs.declared.stage.Ending.TheVariants as endings
use Rattle.kb_client.specs.declared.stage.Stage.{Stage}
use Rattle.kb_client.specs.declared.stage.Stage.TheVariants as stages
use Rattle.kb_client.specs.Sent.{Line, Target}
use Rattle.kb_client.specs.Stages.{fault_of}
use Rattle.kb_client.specs.Replies.{body_for, handshake_code, authenticate_code, create_code, identity, produce_code}
use Rattle.kb_client.specs.Requests.{handshake_text, authenticate_text, create_text, identify_text, produce_text, IsBatchOf}

pub record Producer : Type 0 where
  pub target : Target
  -- the topic is to be created with so many partitions
  pub create : Option ℤ
  -- the id that was answered
  pub producer : Option ProducerId
  -- the lines that are not acknowledged, in order
  pub lines : List Line
  -- how many lines were acknowledged
  pub acknowledged : ℕ
  -- the request whose turn it is
  pub stage : Stage
  -- that request was taken, and no reply to it came yet
  pub asked : Bool
  -- a front of that reply
  pub unread : List ℕ

-- ---- the order of the requests

-- another request has its turn, and nothing of a reply is there
abbrev pub entered : Stage → Producer → Producer
entered stage p = record p { stage = stage; asked = false; unread = [] }

-- it ends for good
abbrev pub ended : Ending → Producer → Producer
ended ending p = entered (stages.Ended ending) p

-- after the login a topic that is to be created comes first, then an id that is missing, and then the lines
abbrev pub after_login : Option ℤ → Option ProducerId → Stage
after_login (Some partitions) producer = stages.Create partitions
after_login None None = stages.Identify
after_login None (Some producer) = stages.Produce producer

abbrev pub restarted : Stage → Stage
restarted (stages.Ended ending) = stages.Ended ending
restarted stages.Closed = stages.Handshake
restarted stages.Handshake = stages.Handshake
restarted stages.Authenticate = stages.Handshake
restarted (stages.Create partitions) = stages.Handshake
restarted stages.Identify = stages.Handshake
restarted (stages.Produce producer) = stages.Handshake

-- A new connection: it logs in again. What was acknowledged, created and answered as an id stays so.
abbrev pub connected : Producer → Producer
connected p = entered (restarted p.stage) p

-- ---- what a reply makes of it

abbrev pub handshaken : Result ℤ WireFault → Producer → Producer
handshaken (Err fault) p = ended endings.Protocol p
handshaken (Ok code) p = if int_eq code (pos 0) then entered stages.Authenticate p else ended (endings.Code code) p

-- a wrong user or password has a code of its own
abbrev pub logged_in : Result ℤ WireFault → Producer → Producer
logged_in (Err fault) p = ended endings.Protocol p
logged_in (Ok code) p =
    if int_eq code (pos 0) then entered (after_login p.create p.producer) p
    else if int_eq code (code_of SaslAuthenticationFailed) then ended endings.Denied p
    else ended (endings.Code code) p

-- a topic that was there is as good as made
abbrev pub after_create : Result ℤ WireFault → Producer → Producer
after_create (Err fault) p = ended endings.Protocol p
after_create (Ok code) p =
    if int_eq code (pos 0) || int_eq code (code_of TopicAlreadyExists)
    then entered (after_login None p.producer) (record p { create = None })
    else ended (endings.Code code) p

abbrev pub identified : Result (ℤ × ProducerId) WireFault → Producer → Producer
identified (Err fault) p = ended endings.Protocol p
identified (Ok reply) p = if int_eq reply.0 (pos 0) then entered (stages.Produce reply.1) (record p { producer = Some reply.1 })
    else ended (endings.Code reply.0) p

-- the first line is acknowledged: it is stored
abbrev pub acknowledged : ProducerId → List Line → Producer → Producer
acknowledged producer [] p = ended endings.Protocol p
acknowledged producer (line ∷ lines) p = entered (stages.Produce producer) (record p { lines = lines; acknowledged = p.acknowledged + 1 })

abbrev pub stored : ProducerId → Result ℤ WireFault → Producer → Producer
stored producer (Err fault) p = ended endings.Protocol p
stored producer (Ok code) p = if int_eq code (pos 0) then acknowledged producer p.lines p else ended (endings.Code code) p

-- the sequence number of the first line that is not acknowledged
abbrev pub sequence : Producer → ℤ
sequence p = pos (p.acknowledged % 2 ^ 31)

-- the correlation id of a request: a batch has its sequence number
abbrev pub correlation : Stage → Producer → ℤ
correlation stages.Closed p = pos 0
correlation stages.Handshake p = pos 1
correlation stages.Authenticate p = pos 2
correlation (stages.Create partitions) p = pos 3
correlation stages.Identify p = pos 4
correlation (stages.Produce producer) p = sequence p
correlation (stages.Ended ending) p = pos 0

abbrev pub heard_by : Stage → Result (List ℕ) WireFault → Producer → Producer
heard_by stage (Err fault) p = ended endings.Protocol p
heard_by stages.Closed (Ok body) p = ended endings.Protocol p
heard_by stages.Handshake (Ok body) p = handshaken (handshake_code body) p
heard_by stages.Authenticate (Ok body) p = logged_in (authenticate_code body) p
heard_by (stages.Create partitions) (Ok body) p = after_create (create_code body) p
heard_by stages.Identify (Ok body) p = identified (identity body) p
heard_by (stages.Produce producer) (Ok body) p = stored producer (produce_code body) p
heard_by (stages.Ended ending) (Ok body) p = ended endings.Protocol p

-- the reply to its request came
unfoldable pub heard : List ℕ → Producer → Producer
heard frame p = heard_by p.stage (body_for (correlation p.stage p) frame) p

-- what stands in front of the unread bytes makes of it: more than the reply is a fault
abbrev pub read_at : Front → Producer → Producer
read_at (Whole frame []) p = heard frame p
read_at (Whole frame (b ∷ rest)) p = ended endings.Protocol p
read_at Partial p = p
read_at TooSmall p = ended endings.Protocol p
read_at TooLarge p = ended endings.Protocol p

-- bytes that nobody asked for are a fault
abbrev pub unasked : List ℕ → Producer → Producer
unasked [] p = p
unasked (b ∷ piece) p = ended endings.Protocol p

abbrev pub fed_by : Option ClientFault → List ℕ → Producer → Producer
fed_by (Some fault) piece p = p
fed_by None piece p = if p.asked then read_at (front (p.unread ++ piece)) (record p { unread = p.unread ++ piece }) else unasked piece p

-- a piece of what the broker sent came
unfoldable pub fed : List ℕ → Producer → Producer
fed piece p = fed_by (fault_of p.stage) piece p

-- whether it ended, as an answer
abbrev pub ReportsFault : Stage → Result (Unit {0}) ClientFault → Type 0
ReportsFault stage (Ok u) = fault_of stage ≡ None
ReportsFault stage (Err fault) = fault_of stage ≡ Some fault

-- What input answers and leaves.
abbrev pub Inputs : Producer → List ℕ → Result (Unit {0}) ClientFault → Producer → Type 0
Inputs old piece (Ok u) new = (new ≡ fed piece old) × (fault_of new.stage ≡ None)
Inputs old piece (Err faults.Memory) new = (new ≡ old) × (fault_of old.stage ≡ None)
Inputs old piece (Err faults.Denied) new = (new ≡ fed piece old) × (fault_of new.stage ≡ Some faults.Denied)
Inputs old piece (Err (faults.Code code)) new = (new ≡ fed piece old) × (fault_of new.stage ≡ Some (faults.Code code))
Inputs old piece (Err faults.Protocol) new = (new ≡ fed piece old) × (fault_of new.stage ≡ Some faults.Protocol)
Inputs old piece (Err faults.LineTooLong) new = ⊥

-- ---- lines

abbrev pub with_line : Line → Producer → Producer
with_line line p = record p { lines = p.lines ++ line ∷ [] }

-- What line answers and leaves.
abbrev pub TakesLine : Producer → Line → Result (Unit {0}) ClientFault → Producer → Type 0
TakesLine old line (Ok u) new = (fault_of old.stage ≡ None) × (length line.value ≤ 1000000) × (new ≡ with_line line old)
TakesLine old line (Err faults.LineTooLong) new = (fault_of old.stage ≡ None) × (1000000 < length line.value) × (new ≡ old)
TakesLine old line (Err faults.Memory) new = (fault_of old.stage ≡ None) × (length line.value ≤ 1000000) × (new ≡ old)
TakesLine old line (Err faults.Denied) new = (fault_of old.stage ≡ Some faults.Denied) × (new ≡ old)
TakesLine old line (Err (faults.Code code)) new = (fault_of old.stage ≡ Some (faults.Code code)) × (new ≡ old)
TakesLine old line (Err faults.Protocol) new = (fault_of old.stage ≡ Some faults.Protocol) × (new ≡ old)

-- whether nothing is left to do: it is logged in, the topic is made, and each line is acknowledged
abbrev pub is_idle : Stage → List Line → Bool
is_idle stages.Closed lines = false
is_idle stages.Handshake lines = false
is_idle stages.Authenticate lines = false
is_idle (stages.Create partitions) lines = false
is_idle stages.Identify lines = false
is_idle (stages.Produce producer) [] = true
is_idle (stages.Produce producer) (line ∷ lines) = false
is_idle (stages.Ended ending) lines = false

-- ---- requests

abbrev pub is_some_line : List Line → Bool
is_some_line [] = false
is_some_line (line ∷ lines) = true

-- a stage has a request, Produce where there is a line
abbrev pub has_request : Stage → List Line → Bool
has_request stages.Closed lines = false
has_request stages.Handshake lines = true
has_request stages.Authenticate lines = true
has_request (stages.Create partitions) lines = true
has_request stages.Identify lines = true
has_request (stages.Produce producer) lines = is_some_line lines
has_request (stages.Ended ending) lines = false

-- the request of the first line
abbrev pub IsProduce : ProducerId → List Line → Producer → List ℕ → Type 0
IsProduce producer [] p text = ⊥
IsProduce producer (line ∷ lines) p text =
    (batch : List ℕ) × IsBatchOf producer (sequence p) line batch × (text ≡ produce_text (sequence p) p.target batch)

-- the request of a stage
abbrev pub IsRequest : Stage → Producer → List ℕ → Type 0
IsRequest stages.Closed p text = ⊥
IsRequest stages.Handshake p text = text ≡ handshake_text (pos 1)
IsRequest stages.Authenticate p text = text ≡ authenticate_text (pos 2) p.target
IsRequest (stages.Create partitions) p text = text ≡ create_text (pos 3) p.target partitions
IsRequest stages.Identify p text = text ≡ identify_text (pos 4)
IsRequest (stages.Produce producer) p text = IsProduce producer p.lines p text
IsRequest (stages.Ended ending) p text = ⊥

-- whether a request is to be taken
abbrev pub is_due : Producer → Bool
is_due p = if p.asked then false else has_request p.stage p.lines

-- the output: the request whose turn it is, once, and else nothing
abbrev pub IsOutput : Bool → Producer → List ℕ → Producer → Type 0
IsOutput true old text new = IsRequest old.stage old text × (new ≡ record old { asked = true })
IsOutput false old text new = (text ≡ []) × (new ≡ old)

-- What take_output answers, whose bytes the view reads, and leaves.
abbrev pub OutputsText : {V : Type 0} → (V → List ℕ) → Producer → Result V ClientFault → Producer → Type 0
OutputsText bytes old (Ok text) new = (fault_of old.stage ≡ None) × IsOutput (is_due old) old (bytes text) new
OutputsText bytes old (Err faults.Memory) new = (fault_of old.stage ≡ None) × (is_due old ≡ true) × (new ≡ old)
OutputsText bytes old (Err faults.Denied) new = (fault_of old.stage ≡ Some faults.Denied) × (new ≡ old)
OutputsText bytes old (Err (faults.Code code)) new = (fault_of old.stage ≡ Some (faults.Code code)) × (new ≡ old)
OutputsText bytes old (Err faults.Protocol) new = (fault_of old.stage ≡ Some faults.Protocol) × (new ≡ old)
OutputsText bytes old (Err faults.LineTooLong) new = ⊥

-- a producer that was handed nothing
abbrev pub new_producer : Target → Option ℤ → Producer
new_producer target create = record {
  target = target;
  create = create;
  producer = None;
  lines = [];
  acknowledged = 0;
  stage = stages.Closed;
  asked = false;
  unread = [];
}
