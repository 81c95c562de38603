-- A consumer and what keeps its partition, with a network between them.
use Rattle.std.specs.Prelude.{◌≡◌, ◌⊎◌, ◌≤◌, ◌≤ℤ◌, ℕ, ℤ, pos, ◌&&◌, if◌then◌else◌, Bool, true, false, List, [], ◌∷◌, ◌++◌, length, take}
use Rattle.std.specs.Prelude.{drop, Option, Some, None, Result, IsUtf8, FitsSigned}
use Rattle.std.specs.Int.{w16, w32}
use Rattle.std.specs.Str.{bytes_eq}
use Rattle.std.specs.Ordering.{int_eq}
use Rattle.kb_api_group.specs.Frames.{Front, Whole, Partial, TooSmall, TooLarge}
use Rattle.kb_api_group.specs.ClientFrames.{front}
use Rattle.kb_api_group.specs.declared.plain.PlainLogin.{PlainLogin}
use Rattle.kb_api_data.specs.declared.fetch_v5.FetchPartitionReplyV5.{FetchPartitionReplyV5}
use Rattle.kb_client.specs.declared.fault.ClientFault.{ClientFault}
use Rattle.kb_client.specs.Sent.{Target, HasShortTexts}
use Rattle.kb_client.specs.declared.fetching.Fetching.TheVariants as stages
use Rattle.kb_client.specs.Lines.{line_text}
use Rattle.kb_batch.specs.declared.record.RecordView.{RecordView}
use Rattle.std.specs.List.{flat_map}
use Rattle.kb_client.specs.Consumer.{Consumer, new_consumer, connected, without_text, Inputs, OutputsText}
use Rattle.kb_client_spec.specs.Receiver.{Receiver, Login, Greets, Shaken, LoggedIn, Shut, ReceiverOutcome, shuts, request, outcome}
use Rattle.kb_client_spec.specs.Sending.{if_given, if_come, reply_text, arrived, cut}
use Rattle.kb_client_spec.specs.Partition.{IsLog, Log, end_of_log, records_of_log}
use Rattle.kb_client_spec.specs.Fetching.{Fetch, fetch_of, partition_answer, refused_partition, reply_body}

pub record Reading : Type 0 where
  pub core : Consumer
  -- the text of the lines that were taken
  pub taken : List ℕ
  -- the bytes that are under way to the broker, and to the consumer
  pub requests : List ℕ
  pub answers : List ℕ
  -- what answers the login; what it stores is of no matter here
  pub greeter : Receiver
  -- the partition's topic and index, and whether it is there
  pub topic : List ℕ
  pub index : ℤ
  pub there : Bool
  -- where its batches began, the first offset that is not deleted, and all batches that were added
  pub origin : ℤ
  pub start : ℤ
  pub batches : List (List ℕ)
  -- how many batches there were when the last fetch was answered
  pub met : ℕ

pub data Event : Type 0 where
  -- a batch is added at the end of the partition
  Appends : (batch : List ℕ) → Event
  -- what is below an offset is deleted, by retention or by request
  Trims : (start : ℤ) → Event
  -- the topic is deleted, for good
  Deletes : Event
  -- the output of the consumer is taken, and sent
  Sends : (result : Result (List ℕ) ClientFault) → Event
  -- so many bytes come to the broker, or all that are under way
  Arrives : (n : ℕ) → Event
  -- the broker reads the request in front; a fetch is answered one batch and so many more, if there is room for them
  Serves : (n : ℕ) → Event
  -- the same, where memory or the store refuses a fetch: it is answered an error code
  Refuses : (code : ℤ) → Event
  -- so many bytes come to the consumer, or all that are under way
  Returns : (n : ℕ) (result : Result (Unit {0}) ClientFault) → Event
  -- the lines that were found are taken
  Takes : Event
  -- the connection ends, and another begins
  Reconnects : Event

-- the partition that a fetch asks for, if it is there
abbrev pub log_of : Reading → Fetch → Option Log
log_of w f =
    if w.there && bytes_eq f.topic w.topic && int_eq f.index w.index
    then Some (record { start = w.start; end = end_of_log w.origin w.batches; batches = w.batches })
    else None

abbrev pub with_outcome : ℤ → ReceiverOutcome → Reading → Reading
with_outcome id o w = record w { greeter = o.receiver; answers = w.answers ++ reply_text id o.reply }

-- a fetch is answered to whoever is logged in: any other is shut
abbrev pub with_fetch_answered : Login → (Fetch → FetchPartitionReplyV5) → ℤ → Fetch → Receiver → Reading → Reading
with_fetch_answered LoggedIn answers id f r w =
    record w { greeter = r; answers = w.answers ++ reply_text id (Some (reply_body f (answers f))); met = length w.batches }
with_fetch_answered Greets answers id f r w = with_outcome id (shuts r) w
with_fetch_answered Shaken answers id f r w = with_outcome id (shuts r) w
with_fetch_answered Shut answers id f r w = with_outcome id (shuts r) w

-- any other request is one of the login
abbrev pub served_by : Option Fetch → (Fetch → FetchPartitionReplyV5) → List ℕ → Receiver → Reading → Reading
served_by (Some f) answers frame r w = with_fetch_answered r.login answers (request frame).correlation_id f r w
served_by None answers frame r w = with_outcome (request frame).correlation_id (outcome (request frame).asked r) w

-- the request in front is served, where a fetch has these answers
abbrev pub served_at : (Fetch → FetchPartitionReplyV5) → Front → Reading → Reading
served_at answers (Whole frame rest) w = served_by (fetch_of frame) answers frame (record w.greeter { unread = rest }) w
served_at answers Partial w = w
served_at answers TooSmall w = record w { greeter = record w.greeter { login = Shut } }
served_at answers TooLarge w = record w { greeter = record w.greeter { login = Shut } }

abbrev pub answers_of : ℕ → Reading → Fetch → FetchPartitionReplyV5
answers_of n w f = partition_answer n f (log_of w f)

abbrev pub refused_with : ℤ → Fetch → FetchPartitionReplyV5
refused_with code f = refused_partition f.index code

-- Each call of the consumer is what its contract says.
abbrev pub Steps : Event → Reading → Reading → Type 0
Steps (Appends batch) old new = IsLog old.origin (old.batches ++ batch ∷ []) × (new ≡ record old { batches = old.batches ++ batch ∷ [] })
Steps (Trims start) old new =
    (old.start ≤ℤ start) × (start ≤ℤ end_of_log old.origin old.batches) × (new ≡ record old { start = start })
Steps Deletes old new = new ≡ record old { there = false }
Steps (Sends result) old new =
    OutputsText (λ text. text) old.core result new.core × (new ≡ record old { core = new.core; requests = old.requests ++ if_given result })
Steps (Arrives n) old new = new ≡ record old { requests = drop n old.requests; greeter = arrived n old.greeter old.requests }
Steps (Serves n) old new = new ≡ served_at (λ f. answers_of n old f) (front old.greeter.unread) old
Steps (Refuses code) old new =
    FitsSigned w16 code × (code ≡ pos 0 → ⊥) × (new ≡ served_at (λ f. refused_with code f) (front old.greeter.unread) old)
Steps (Returns n result) old new =
    Inputs old.core (take n old.answers) result new.core × (new ≡ record old { core = new.core; answers = if_come result n old.answers })
Steps Takes old new = new ≡ record old { core = without_text old.core; taken = old.taken ++ old.core.found.text }
Steps Reconnects old new = new ≡ record old { core = connected old.core; requests = []; answers = []; greeter = cut old.greeter }

abbrev pub Runs : List Event → Reading → Reading → Type 0
Runs [] first last = last ≡ first
Runs (e ∷ es) first last = (next : Reading) × Steps e first next × Runs es next last

-- the texts and numbers are values of their Rust types
pub record IsTyped (target : Target) : Type 0 where
  pub short : HasShortTexts target
  pub topic : IsUtf8 target.topic
  pub partition : FitsSigned w32 target.partition

abbrev pub new_reading : Target → ℤ → Option ℕ → Bool → List PlainLogin → Bool → ℤ → ℤ → List (List ℕ) → Reading
new_reading target offset wanted follow users there origin start batches = record {
  core = new_consumer target offset wanted follow;
  taken = [];
  requests = [];
  answers = [];
  greeter = record { users = users; login = Greets; unread = []; created = true; next_id = 0; stored = [] };
  topic = target.topic;
  index = target.partition;
  there = there;
  origin = origin;
  start = start;
  batches = batches;
  met = 0;
}

-- nothing is deleted or refused
abbrev pub AreCalm : List Event → Type 0
AreCalm [] = Unit {0}
AreCalm (Appends batch ∷ es) = AreCalm es
AreCalm (Trims start ∷ es) = ⊥
AreCalm (Deletes ∷ es) = ⊥
AreCalm (Sends result ∷ es) = AreCalm es
AreCalm (Arrives n ∷ es) = AreCalm es
AreCalm (Serves n ∷ es) = AreCalm es
AreCalm (Refuses code ∷ es) = ⊥
AreCalm (Returns n result ∷ es) = AreCalm es
AreCalm (Takes ∷ es) = AreCalm es
AreCalm (Reconnects ∷ es) = AreCalm es

-- no more than are wanted
abbrev pub IsWithin : Option ℕ → ℕ → Type 0
IsWithin None n = Unit {0}
IsWithin (Some wanted) n = n ≤ wanted

-- as many as are wanted
abbrev pub IsFull : Option ℕ → ℕ → Type 0
IsFull None n = ⊥
IsFull (Some wanted) n = n ≡ wanted

-- The lines that were found, taken or not, are those of the first records from the asked offset on, each once and in order.
pub record IsGiven (offset : ℤ) (wanted : Option ℕ) (follow : Bool) (w : Reading) : Type 0 where
  pub records : List RecordView
  pub others : List RecordView
  pub in_order : records_of_log offset w.batches ≡ records ++ others
  pub lines : w.taken ++ w.core.found.text ≡ flat_map line_text records
  pub within : IsWithin wanted (length records)
  -- so many as are wanted, or all up to an end that was met
  pub finished : w.core.stage ≡ stages.Finished → IsFull wanted (length records)
      ⊎ ((follow ≡ false) × (records ≡ records_of_log offset (take w.met w.batches)))
