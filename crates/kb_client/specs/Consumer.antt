-- What a consumer has, and what each call makes of it.
use Rattle.std.specs.Prelude.{◌≡◌, ◌&&◌, ℕ, zero, suc, ℤ, pos, Bool, true, false, not, if◌then◌else◌, List, [], ◌∷◌, ◌++◌, Option, Some}
use Rattle.std.specs.Prelude.{None, Result, Ok, Err, unwrap_or}
use Rattle.std.specs.Ordering.{int_eq}
use Rattle.kb_wire.specs.ErrorCode.{code_of}
use Rattle.kb_wire.specs.declared.error_code.ErrorCode.TheVariants.{SaslAuthenticationFailed}
use Rattle.kb_wire.specs.declared.fault.WireFault.{WireFault}
use Rattle.kb_api_group.specs.ClientFrames.{front}
use Rattle.kb_api_data.specs.declared.fetch_v5.FetchPartitionReplyV5.{FetchPartitionReplyV5}
use Rattle.kb_client.specs.declared.fault.ClientFault.{ClientFault}
use Rattle.kb_client.specs.declared.fault.ClientFault.TheVariants as faults
use Rattle.kb_client.specs.declared.stage.Ending.{Ending}
use Rattle.kb_client.specs.declared.stage.Ending.TheVariants as endings
use Rattle.kb_client.specs.declared.fetching.Fetching.{Fetching}
use Rattle.kb_client.specs.declared.fetching.Fetching.TheVariants as stages
use Rattle.kb_client.specs.declared.arrival.Arrival.{Arrival}
use Rattle.kb_client.specs.declared.arrival.Arrival.TheVariants as arrivals
use Rattle.kb_client.specs.Sent.{Target}
use Rattle.kb_client.specs.Stages.{ending_fault}
use Rattle.kb_client.specs.Replies.{body_for, handshake_code, authenticate_code}
use Rattle.kb_client.specs.Requests.{handshake_text, authenticate_text}
use Rattle.kb_client.specs.Lines.{Found, found_in, has_no_bytes}
use Rattle.kb_client.specs.Fetched.{fetch_text, fetched_partition, arrival_of}

pub record Consumer : Type 0 where
  pub target : Target
  -- it waits for more at the end of the partition
  pub follow : Bool
  -- how far the lines were found
  pub found : Found
  -- the request whose turn it is
  pub stage : Fetching
  -- that request was taken, and no reply to it came yet
  pub asked : Bool
  -- a front of that reply
  pub unread : List ℕ

-- the fault that stands for good
abbrev pub fault_at : Fetching → Option ClientFault
fault_at stages.Closed = None
fault_at stages.Handshake = None
fault_at stages.Authenticate = None
fault_at stages.Fetch = None
fault_at stages.Finished = None
fault_at (stages.Ended ending) = Some (ending_fault ending)

-- ---- the order of the requests

-- another request has its turn, and nothing of a reply is there
abbrev pub entered : Fetching → Consumer → Consumer
entered stage c = record c { stage = stage; asked = false; unread = [] }

abbrev pub restarted : Fetching → Fetching
restarted (stages.Ended ending) = stages.Ended ending
restarted stages.Finished = stages.Finished
restarted stages.Closed = stages.Handshake
restarted stages.Handshake = stages.Handshake
restarted stages.Authenticate = stages.Handshake
restarted stages.Fetch = stages.Handshake

-- A new connection: it logs in again. What was found stays so.
abbrev pub connected : Consumer → Consumer
connected c = entered (restarted c.stage) c

-- ---- what a reply makes of it

abbrev pub handshaken : Result ℤ WireFault → Fetching
handshaken (Err fault) = stages.Ended endings.Protocol
handshaken (Ok code) = if int_eq code (pos 0) then stages.Authenticate else stages.Ended (endings.Code code)

-- a wrong user or password has a code of its own
abbrev pub logged_in : Result ℤ WireFault → Fetching
logged_in (Err fault) = stages.Ended endings.Protocol
logged_in (Ok code) =
    if int_eq code (pos 0) then stages.Fetch
    else if int_eq code (code_of SaslAuthenticationFailed) then stages.Ended endings.Denied
    else stages.Ended (endings.Code code)

-- no record is there: that is the end, unless it waits for more
abbrev pub at_end : Bool → Fetching
at_end true = stages.Fetch
at_end false = stages.Finished

-- whether more lines are wanted
abbrev pub wanting : Option ℕ → Fetching → Fetching
wanting None stage = stage
wanting (Some zero) stage = stages.Finished
wanting (Some (suc n)) stage = stage

abbrev pub with_found : Option Found → Consumer → Consumer
with_found None c = entered (stages.Ended endings.Protocol) c
with_found (Some found) c = entered (wanting found.wanted stages.Fetch) (record c { found = found })

abbrev pub with_records : List ℕ → Consumer → Consumer
with_records [] c = entered (at_end c.follow) c
with_records (b ∷ records) c = with_found (found_in (b ∷ records) c.found) c

abbrev pub after_fetch : Result FetchPartitionReplyV5 WireFault → Consumer → Consumer
after_fetch (Err fault) c = entered (stages.Ended endings.Protocol) c
after_fetch (Ok reply) c = if int_eq reply.error_code (pos 0) then with_records (unwrap_or reply.records []) c
    else entered (stages.Ended (endings.Code reply.error_code)) c

-- the correlation id of a request
abbrev pub correlation : Fetching → ℤ
correlation stages.Closed = pos 0
correlation stages.Handshake = pos 1
correlation stages.Authenticate = pos 2
correlation stages.Fetch = pos 3
correlation stages.Finished = pos 0
correlation (stages.Ended ending) = pos 0

abbrev pub heard_by : Fetching → Result (List ℕ) WireFault → Consumer → Consumer
heard_by stage (Err fault) c = entered (stages.Ended endings.Protocol) c
heard_by stages.Closed (Ok body) c = entered (stages.Ended endings.Protocol) c
heard_by stages.Handshake (Ok body) c = entered (handshaken (handshake_code body)) c
heard_by stages.Authenticate (Ok body) c = entered (logged_in (authenticate_code body)) c
heard_by stages.Fetch (Ok body) c = after_fetch (fetched_partition body) c
heard_by stages.Finished (Ok body) c = entered (stages.Ended endings.Protocol) c
heard_by (stages.Ended ending) (Ok body) c = entered (stages.Ended endings.Protocol) c

-- the reply to its request came
unfoldable pub heard : List ℕ → Consumer → Consumer
heard frame c = heard_by c.stage (body_for (correlation c.stage) frame) c

-- what came since the request makes of it
abbrev pub read_at : Arrival → List ℕ → Consumer → Consumer
read_at (arrivals.Reply frame) bytes c = heard frame (record c { unread = [] })
read_at arrivals.Part bytes c = record c { unread = bytes }
read_at arrivals.Fault bytes c = entered (stages.Ended endings.Protocol) c

-- what the code makes of the bytes that came, which it has set aside
abbrev pub Hears : {E : Type 0} → Consumer → List ℕ → Result Bool E → Consumer → Type 0
Hears old bytes (Ok true) new = (arrival_of (front bytes) ≡ arrivals.Part → ⊥) × (new ≡ read_at (arrival_of (front bytes)) bytes old)
Hears old bytes (Ok false) new = (arrival_of (front bytes) ≡ arrivals.Part) × (new ≡ old)
Hears old bytes (Err e) new = new ≡ old

-- bytes that nobody asked for are a fault
abbrev pub unasked : List ℕ → Consumer → Consumer
unasked [] c = c
unasked (b ∷ piece) c = entered (stages.Ended endings.Protocol) c

abbrev pub fed_by : Option ClientFault → List ℕ → Consumer → Consumer
fed_by (Some fault) piece c = c
fed_by None piece c = if c.asked then read_at (arrival_of (front (c.unread ++ piece))) (c.unread ++ piece) c else unasked piece c

-- a piece of what the broker sent came
unfoldable pub fed : List ℕ → Consumer → Consumer
fed piece c = fed_by (fault_at c.stage) piece c

-- whether it ended, as an answer
abbrev pub ReportsFault : Fetching → Result (Unit {0}) ClientFault → Type 0
ReportsFault stage (Ok u) = fault_at stage ≡ None
ReportsFault stage (Err fault) = fault_at stage ≡ Some fault

-- What input answers and leaves.
abbrev pub Inputs : Consumer → List ℕ → Result (Unit {0}) ClientFault → Consumer → Type 0
Inputs old piece (Ok u) new = (new ≡ fed piece old) × (fault_at new.stage ≡ None)
Inputs old piece (Err faults.Memory) new = (new ≡ old) × (fault_at old.stage ≡ None)
Inputs old piece (Err faults.Denied) new = (new ≡ fed piece old) × (fault_at new.stage ≡ Some faults.Denied)
Inputs old piece (Err (faults.Code code)) new = (new ≡ fed piece old) × (fault_at new.stage ≡ Some (faults.Code code))
Inputs old piece (Err faults.Protocol) new = (new ≡ fed piece old) × (fault_at new.stage ≡ Some faults.Protocol)
Inputs old piece (Err faults.LineTooLong) new = ⊥

-- ---- lines

-- the lines were taken
abbrev pub without_text : Consumer → Consumer
without_text c = record c { found = record c.found { text = [] } }

-- whether each line that was asked for was taken
abbrev pub is_finished : Fetching → List ℕ → Bool
is_finished stages.Closed text = false
is_finished stages.Handshake text = false
is_finished stages.Authenticate text = false
is_finished stages.Fetch text = false
is_finished stages.Finished text = has_no_bytes text
is_finished (stages.Ended ending) text = false

-- ---- requests

abbrev pub has_request : Fetching → Bool
has_request stages.Closed = false
has_request stages.Handshake = true
has_request stages.Authenticate = true
has_request stages.Fetch = true
has_request stages.Finished = false
has_request (stages.Ended ending) = false

-- the request of a stage
abbrev pub IsRequest : Fetching → Consumer → List ℕ → Type 0
IsRequest stages.Closed c text = ⊥
IsRequest stages.Handshake c text = text ≡ handshake_text (pos 1)
IsRequest stages.Authenticate c text = text ≡ authenticate_text (pos 2) c.target
IsRequest stages.Fetch c text = text ≡ fetch_text (pos 3) c.target c.found.offset c.follow
IsRequest stages.Finished c text = ⊥
IsRequest (stages.Ended ending) c text = ⊥

-- whether a request is to be taken
abbrev pub is_due : Consumer → Bool
is_due c = if c.asked then false else has_request c.stage

-- the output: the request whose turn it is, once, and else nothing
abbrev pub IsOutput : Bool → Consumer → List ℕ → Consumer → Type 0
IsOutput true old text new = IsRequest old.stage old text × (new ≡ record old { asked = true })
IsOutput false old text new = (text ≡ []) × (new ≡ old)

-- What take_output answers, whose bytes the view reads, and leaves.
abbrev pub OutputsText : {V : Type 0} → (V → List ℕ) → Consumer → Result V ClientFault → Consumer → Type 0
OutputsText bytes old (Ok text) new = (fault_at old.stage ≡ None) × IsOutput (is_due old) old (bytes text) new
OutputsText bytes old (Err faults.Memory) new = (fault_at old.stage ≡ None) × (is_due old ≡ true) × (new ≡ old)
OutputsText bytes old (Err faults.Denied) new = (fault_at old.stage ≡ Some faults.Denied) × (new ≡ old)
OutputsText bytes old (Err (faults.Code code)) new = (fault_at old.stage ≡ Some (faults.Code code)) × (new ≡ old)
OutputsText bytes old (Err faults.Protocol) new = (fault_at old.stage ≡ Some faults.Protocol) × (new ≡ old)
OutputsText bytes old (Err faults.LineTooLong) new = ⊥

-- a consumer that has found nothing: if it wants no line it is finished
abbrev pub new_consumer : Target → ℤ → Option ℕ → Bool → Consumer
new_consumer target offset wanted follow = record {
  target = target;
  follow = follow;
  found = record { offset = offset; wanted = wanted; text = [] };
  stage = wanting wanted stages.Closed;
  asked = false;
  unread = [];
}
