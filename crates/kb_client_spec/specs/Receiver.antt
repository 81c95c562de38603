-- The other side of a producer: what stores its lines (Kafka protocol guide; Kafka documentation, "Idempotent Producer"; RFC 4616).
use Rattle.std.specs.Prelude.{ℕ, suc, ℤ, pos, negsuc, ◌-◌, ◌%◌, ◌^◌, ◌&&◌, nat_lt, Bool, true, false, if◌then◌else◌, List, [], ◌∷◌, ◌++◌}
use Rattle.std.specs.Prelude.{length, map, filter, Option, Some, None, option_map, Result, Ok, Err, codes}
use Rattle.std.specs.Ordering.{int_eq}
use Rattle.std.specs.Str.{bytes_eq}
use Rattle.std.specs.List.{list_any}
use Rattle.kb_wire.specs.Codec.{whole}
use Rattle.kb_wire.specs.ErrorCode.{code_of}
use Rattle.kb_wire.specs.declared.api_key.TheConstants.{PRODUCE, SASL_HANDSHAKE, CREATE_TOPICS, INIT_PRODUCER_ID, SASL_AUTHENTICATE}
use Rattle.kb_wire.specs.declared.error_code.ErrorCode.TheVariants.{UnsupportedSaslMechanism, IllegalSaslState, SaslAuthenticationFailed}
use Rattle.kb_wire.specs.declared.error_code.ErrorCode.TheVariants.{TopicAlreadyExists, OutOfOrderSequenceNumber, InvalidRecord}
use Rattle.kb_wire.specs.declared.fault.WireFault.{WireFault}
use Rattle.kb_api_group.specs.Plain.{plain}
use Rattle.kb_api_group.specs.Layouts.{request_header, sasl_handshake_request, sasl_handshake_reply, sasl_authenticate_request}
use Rattle.kb_api_group.specs.Layouts.{sasl_authenticate_reply}
use Rattle.kb_api_group.specs.declared.header.RequestHeader.{RequestHeader}
use Rattle.kb_api_group.specs.declared.plain.PlainLogin.{PlainLogin}
use Rattle.kb_api_data.specs.Layouts.{create_topics_request, create_topics_reply, init_producer_id_request, init_producer_id_reply}
use Rattle.kb_api_data.specs.Layouts.{produce_request, produce_reply}
use Rattle.kb_api_data.specs.declared.create_topics.CreateTopic.{CreateTopic}
use Rattle.kb_api_data.specs.declared.produce.ProduceTopic.{ProduceTopic}
use Rattle.kb_api_data.specs.declared.produce.ProducePartition.{ProducePartition}
use Rattle.kb_batch.specs.declared.fault.BatchFault.{BatchFault}
use Rattle.kb_batch.specs.declared.record.RecordView.{RecordView}
use Rattle.kb_batch.specs.Batch.{first_fault}
use Rattle.kb_batch.specs.Header.{producer_id_of, producer_epoch_of, base_sequence_of}
use Rattle.kb_batch.specs.Scan.{views_of}
use Rattle.kb_client.specs.declared.stage.ProducerId.{ProducerId}

-- 1. What it has

-- a value that is stored, and the producer whose it is
pub record Stored : Type 0 where
  pub producer : ProducerId
  pub value : List ℕ

-- how far the connection is with its login
pub data Login : Type 0 where
  -- nothing was said
  Greets : Login
  -- the mechanism was accepted
  Shaken : Login
  LoggedIn : Login
  -- nothing is answered on it any more
  Shut : Login

pub record Receiver : Type 0 where
  pub users : List PlainLogin
  pub login : Login
  -- what came on the connection and was not read yet
  pub unread : List ℕ
  -- the topic is there
  pub created : Bool
  -- the producer id that is given next
  pub next_id : ℕ
  -- the values, in the order of their offsets, which begin at 0
  pub stored : List Stored

-- 2. What a request asks

pub data Asked : Type 0 where
  Handshake : (mechanism : List ℕ) → Asked
  Authenticate : (message : List ℕ) → Asked
  Create : (topics : List CreateTopic) → Asked
  Identify : Asked
  Produce : (topics : List ProduceTopic) → Asked
  -- something else
  Malformed : Asked

abbrev pub asked_or_malformed : {A : Type 0} → Result A WireFault → (A → Asked) → Asked
asked_or_malformed (Ok v) f = f v
asked_or_malformed (Err fault) f = Malformed

-- a body, by its key and version
abbrev pub asked_by : ℤ → ℤ → List ℕ → Asked
asked_by key version body =
    if int_eq key SASL_HANDSHAKE && int_eq version (pos 1)
    then asked_or_malformed (whole sasl_handshake_request body) (λ v. Handshake v.mechanism)
    else if int_eq key SASL_AUTHENTICATE && int_eq version (pos 0)
    then asked_or_malformed (whole sasl_authenticate_request body) (λ v. Authenticate v.auth_bytes)
    else if int_eq key CREATE_TOPICS && int_eq version (pos 0)
    then asked_or_malformed (whole create_topics_request body) (λ v. Create v.topics)
    else if int_eq key INIT_PRODUCER_ID && int_eq version (pos 0)
    then asked_or_malformed (whole init_producer_id_request body) (λ v. Identify)
    else if int_eq key PRODUCE && int_eq version (pos 3)
    then asked_or_malformed (whole produce_request body) (λ v. Produce v.topics)
    else Malformed

-- a request: its correlation id, and what it asks
pub record Request : Type 0 where
  pub correlation_id : ℤ
  pub asked : Asked

abbrev pub request_of : Result (RequestHeader × List ℕ) WireFault → Request
request_of (Err fault) = record { correlation_id = pos 0; asked = Malformed }
request_of (Ok h) = record { correlation_id = h.0.correlation_id; asked = asked_by h.0.api_key h.0.api_version h.1 }

-- the request of a frame
unfoldable pub request : List ℕ → Request
request frame = request_of (request_header.read frame)

-- 3. What a request comes to

-- what it has then, and the body of its reply, if there is one
pub record ReceiverOutcome : Type 0 where
  pub receiver : Receiver
  pub reply : Option (List ℕ)

abbrev pub replies : List ℕ → Receiver → ReceiverOutcome
replies body r = record { receiver = r; reply = Some body }

abbrev pub shuts : Receiver → ReceiverOutcome
shuts r = record { receiver = record r { login = Shut }; reply = None }

-- what a connection is answered that is logged in: any other is shut
abbrev pub logged_in_only : Login → ReceiverOutcome → Receiver → ReceiverOutcome
logged_in_only LoggedIn outcome r = outcome
logged_in_only Greets outcome r = shuts r
logged_in_only Shaken outcome r = shuts r
logged_in_only Shut outcome r = shuts r

-- ---- the login

abbrev pub handshake_reply : ℤ → List ℕ
handshake_reply code = sasl_handshake_reply.written (record { error_code = code; mechanisms = codes "PLAIN" ∷ [] })

abbrev pub authenticate_reply : ℤ → List ℕ
authenticate_reply code = sasl_authenticate_reply.written (record { error_code = code; error_message = None; auth_bytes = [] })

abbrev pub is_login : PlainLogin → PlainLogin → Bool
is_login a b = bytes_eq a.authcid b.authcid && bytes_eq a.passwd b.passwd

abbrev pub knows_login : List PlainLogin → Option PlainLogin → Bool
knows_login users None = false
knows_login users (Some login) = list_any (is_login login) users

-- whether a PLAIN message names one of the users with its password
unfoldable pub knows : List PlainLogin → List ℕ → Bool
knows users message = knows_login users (plain message)

-- the mechanism PLAIN alone is accepted
abbrev pub shakes : Bool → Receiver → ReceiverOutcome
shakes true r = replies (handshake_reply (pos 0)) (record r { login = Shaken })
shakes false r = replies (handshake_reply (code_of UnsupportedSaslMechanism)) r

-- a login does not belong where one was made
abbrev pub shaken : Login → List ℕ → Receiver → ReceiverOutcome
shaken Greets mechanism r = shakes (bytes_eq mechanism (codes "PLAIN")) r
shaken Shaken mechanism r = shakes (bytes_eq mechanism (codes "PLAIN")) r
shaken LoggedIn mechanism r = replies (handshake_reply (code_of IllegalSaslState)) r
shaken Shut mechanism r = shuts r

-- after a wrong user or password the connection is shut
abbrev pub logs_in : Bool → Receiver → ReceiverOutcome
logs_in true r = replies (authenticate_reply (pos 0)) (record r { login = LoggedIn })
logs_in false r = replies (authenticate_reply (code_of SaslAuthenticationFailed)) (record r { login = Shut })

abbrev pub authenticated : Login → List ℕ → Receiver → ReceiverOutcome
authenticated Greets message r = replies (authenticate_reply (code_of IllegalSaslState)) r
authenticated Shaken message r = logs_in (knows r.users message) r
authenticated LoggedIn message r = replies (authenticate_reply (code_of IllegalSaslState)) r
authenticated Shut message r = shuts r

-- ---- the topic and the producer id

abbrev pub create_reply : ℤ → List CreateTopic → List ℕ
create_reply code topics = create_topics_reply.written (record { topics = map (λ t. record { name = t.name; error_code = code }) topics })

-- a topic that is there is not made again
abbrev pub creates : List CreateTopic → Receiver → ReceiverOutcome
creates topics r =
    replies (create_reply (if r.created then code_of TopicAlreadyExists else pos 0) topics) (record r { created = true })

abbrev pub identify_reply : ℤ → List ℕ
identify_reply id =
    init_producer_id_reply.written (record { throttle_time_ms = pos 0; error_code = pos 0; producer_id = id; producer_epoch = pos 0 })

-- each time another id
abbrev pub identifies : Receiver → ReceiverOutcome
identifies r = replies (identify_reply (pos r.next_id)) (record r { next_id = suc r.next_id })

-- ---- the values

-- the one batch of a Produce request, and its place
pub record ProducedBatch : Type 0 where
  pub topic : List ℕ
  pub index : ℤ
  pub batch : List ℕ

abbrev pub part_in : List ℕ → List ProducePartition → Option ProducedBatch
part_in topic [] = None
part_in topic (p ∷ []) = option_map (λ batch. record { topic = topic; index = p.index; batch = batch }) p.records
part_in topic (p ∷ q ∷ ps) = None

abbrev pub part_of : List ProduceTopic → Option ProducedBatch
part_of [] = None
part_of (t ∷ []) = part_in t.name t.partitions
part_of (t ∷ u ∷ ts) = None

abbrev pub value_in : Option BatchFault → List RecordView → Option (List ℕ)
value_in (Some fault) views = None
value_in None [] = None
value_in None (v ∷ []) = v.value
value_in None (v ∷ w ∷ vs) = None

-- the value of an accepted batch of one record
unfoldable pub value_of : List ℕ → Option (List ℕ)
value_of batch = value_in (first_fault batch) (views_of batch)

-- the producer whose batch it is
abbrev pub producer_of : List ℕ → ProducerId
producer_of batch = record { id = producer_id_of batch; epoch = producer_epoch_of batch }

abbrev pub is_by : ProducerId → Stored → Bool
is_by p s = int_eq s.producer.id p.id && int_eq s.producer.epoch p.epoch

-- how many values of a producer are stored
unfoldable pub count_by : ProducerId → List Stored → ℕ
count_by p stored = length (filter (is_by p) stored)

-- the offset of the last value of a producer, in a list whose first offset is n
abbrev pub last_by : ProducerId → ℕ → ℕ → List Stored → ℕ
last_by p n last [] = last
last_by p n last (s ∷ ss) = last_by p (suc n) (if is_by p s then n else last) ss

pub data Verdict : Type 0 where
  Next : Verdict
  Repeated : Verdict
  OutOfOrder : Verdict

-- what the sequence number of a batch says, where n values of its producer are stored
unfoldable pub verdict : ℕ → ℤ → Verdict
verdict n sequence =
    if int_eq sequence (pos (n % 2 ^ 31)) then Next
    else if nat_lt 0 n && int_eq sequence (pos ((n - 1) % 2 ^ 31)) then Repeated
    else OutOfOrder

abbrev pub stored_reply : ProducedBatch → ℤ → ℤ → List ℕ
stored_reply part code offset = produce_reply.written (record {
  topics = record {
    name = part.topic;
    partitions = record {
      index = part.index;
      error_code = code;
      base_offset = offset;
      log_append_time_ms = negsuc 0;
    } ∷ [];
  } ∷ [];
  throttle_time_ms = pos 0;
})

-- the next value is stored; a repeat of the last is answered with its offset, and changes nothing; any other is refused
abbrev pub stores : Verdict → ProducedBatch → ProducerId → List ℕ → Receiver → ReceiverOutcome
stores Next part p value r = replies (stored_reply part (pos 0) (pos (length r.stored)))
    (record r { stored = r.stored ++ record { producer = p; value = value } ∷ [] })
stores Repeated part p value r = replies (stored_reply part (pos 0) (pos (last_by p 0 0 r.stored))) r
stores OutOfOrder part p value r = replies (stored_reply part (code_of OutOfOrderSequenceNumber) (negsuc 0)) r

-- what is no batch of one value is refused
abbrev pub stores_batch : Option (List ℕ) → ProducedBatch → ProducerId → Receiver → ReceiverOutcome
stores_batch None part p r = replies (stored_reply part (code_of InvalidRecord) (negsuc 0)) r
stores_batch (Some value) part p r = stores (verdict (count_by p r.stored) (base_sequence_of part.batch)) part p value r

abbrev pub stores_part : Option ProducedBatch → Receiver → ReceiverOutcome
stores_part None r = shuts r
stores_part (Some part) r = stores_batch (value_of part.batch) part (producer_of part.batch) r

-- ---- the whole

-- what a request comes to
abbrev pub outcome : Asked → Receiver → ReceiverOutcome
outcome (Handshake mechanism) r = shaken r.login mechanism r
outcome (Authenticate message) r = authenticated r.login message r
outcome (Create topics) r = logged_in_only r.login (creates topics r) r
outcome Identify r = logged_in_only r.login (identifies r) r
outcome (Produce topics) r = logged_in_only r.login (stores_part (part_of topics) r) r
outcome Malformed r = shuts r
