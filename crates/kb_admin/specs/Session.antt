-- A session: a login and then one task, as the bytes that go out and what the bytes that come make of it.
use Rattle.std.specs.Prelude.{◌≡◌, ℕ, ℤ, pos, List, [], ◌∷◌, Result, Ok, Err, if◌then◌else◌}
use Rattle.std.specs.Ordering.{int_eq}
use Rattle.kb_wire.specs.declared.fault.WireFault.{WireFault}
use Rattle.kb_wire.specs.declared.fault.ReadFault.{ReadFault}
use Rattle.kb_wire.specs.declared.fault.ReadFault.TheVariants as read_faults
use Rattle.kb_api_group.specs.Frames.{Front, Whole, Partial, TooSmall, TooLarge}
use Rattle.kb_api_group.specs.ClientFrames.{front}
use Rattle.kb_client.specs.Requests.{handshake_text}
use Rattle.kb_client.specs.Replies.{body_for}
use Rattle.kb_admin.specs.declared.fault.AdminFault.{AdminFault}
use Rattle.kb_admin.specs.declared.fault.AdminFault.TheVariants as faults
use Rattle.kb_admin.specs.declared.session.Heard.{Heard}
use Rattle.kb_admin.specs.declared.session.Heard.TheVariants as hears
use Rattle.kb_admin.specs.declared.stage.Stage.{Stage}
use Rattle.kb_admin.specs.declared.stage.Stage.TheVariants as stages
use Rattle.kb_admin.specs.declared.task.Task.{Task}
use Rattle.kb_admin.specs.declared.task.Task.TheVariants as tasks
use Rattle.kb_admin.specs.Outcomes.{Topic}
use Rattle.kb_admin.specs.Stages.{correlation, next}
use Rattle.kb_admin.specs.Requests.{authenticate_text, task_text}
use Rattle.kb_admin.specs.Replies.{handshake_code, authenticate_code, created_code, deleted_code, listed_topics}

pub record Session : Type 0 where
  pub user : List ℕ
  pub password : List ℕ
  pub task : Task
  -- the request whose turn it is
  pub stage : Stage
  -- a front of the reply to it
  pub unread : List ℕ

-- a session that begins
abbrev pub new_admin_session : List ℕ → List ℕ → Task → Session
new_admin_session user password task = record { user = user; password = password; task = task; stage = stages.Handshake; unread = [] }

-- the bytes of the request whose turn it is
abbrev pub asked_text : Stage → Session → List ℕ
asked_text stages.Handshake s = handshake_text (pos 1)
asked_text stages.Authenticate s = authenticate_text (pos 2) s.user s.password
asked_text stages.Perform s = task_text (pos 3) s.task
asked_text stages.Ended s = []

-- ---- what a reply comes to

-- what a fault of reading is to the one who asked for a task
abbrev pub read_fault : ReadFault → AdminFault
read_fault read_faults.Memory = faults.Memory
read_fault (read_faults.Wire fault) = faults.Protocol

-- the error code 0 is none
abbrev pub heard_or_refused : Heard → Result ℤ WireFault → Result Heard AdminFault
heard_or_refused heard (Err fault) = Err faults.Protocol
heard_or_refused heard (Ok code) = if int_eq code (pos 0) then Ok heard else Err (faults.Refused code)

-- the topics, where there are some
abbrev pub told : Result (List Topic) WireFault → Result Heard AdminFault
told (Err fault) = Err faults.Protocol
told (Ok topics) = Ok (hears.Topics topics)

-- the reply to the task's request
abbrev pub performed : Task → List ℕ → Result Heard AdminFault
performed (tasks.Create topic) body = heard_or_refused hears.Done (created_code body)
performed (tasks.Delete name) body = heard_or_refused hears.Done (deleted_code body)
performed tasks.List body = told (listed_topics body)

abbrev pub step_answered : Stage → Task → Result (List ℕ) WireFault → Result Heard AdminFault
step_answered stage task (Err fault) = Err faults.Protocol
step_answered stages.Handshake task (Ok body) = heard_or_refused hears.Next (handshake_code body)
step_answered stages.Authenticate task (Ok body) = heard_or_refused hears.Next (authenticate_code body)
step_answered stages.Perform task (Ok body) = performed task body
step_answered stages.Ended task (Ok body) = Err faults.Protocol

-- the reply to its request
abbrev pub after_reply : List ℕ → Session → Result Heard AdminFault
after_reply frame s = step_answered s.stage s.task (body_for (correlation s.stage) frame)

-- ---- what bytes come to

-- what stands in front of them: more than the reply is a fault
abbrev pub read_at : Front → Session → Result Heard AdminFault
read_at (Whole frame []) s = after_reply frame s
read_at (Whole frame (b ∷ rest)) s = Err faults.Protocol
read_at Partial s = Ok hears.More
read_at TooSmall s = Err faults.Protocol
read_at TooLarge s = Err faults.Protocol

abbrev pub heard_by : Stage → List ℕ → Session → Result Heard AdminFault
heard_by stages.Handshake bytes s = read_at (front bytes) s
heard_by stages.Authenticate bytes s = read_at (front bytes) s
heard_by stages.Perform bytes s = read_at (front bytes) s
heard_by stages.Ended bytes s = Err faults.Protocol

-- What the bytes come to that came since its request.
abbrev pub heard : List ℕ → Session → Result Heard AdminFault
heard bytes s = heard_by s.stage bytes s

-- the answer is that, unless memory ran out
abbrev pub Comes : Result Heard AdminFault → Result Heard AdminFault → Type 0
Comes said (Ok heard) = said ≡ Ok heard
Comes said (Err (faults.Refused code)) = said ≡ Err (faults.Refused code)
Comes said (Err faults.Protocol) = said ≡ Err faults.Protocol
Comes said (Err faults.Memory) = Unit {0}

-- what is answered of a code that was read, or not
abbrev pub PassesCode : Result ℤ ReadFault → Heard → Result Heard AdminFault → Type 0
PassesCode (Ok code) heard result = result ≡ heard_or_refused heard (Ok code)
PassesCode (Err fault) heard result = result ≡ Err (read_fault fault)

-- less than the reply stays unread
abbrev pub StaysUnread : Result Heard AdminFault → List ℕ → List ℕ → Type 0
StaysUnread (Ok hears.More) came unread = unread ≡ came
StaysUnread (Ok hears.Next) came unread = Unit {0}
StaysUnread (Ok hears.Done) came unread = Unit {0}
StaysUnread (Ok (hears.Topics topics)) came unread = Unit {0}
StaysUnread (Err fault) came unread = Unit {0}

-- ---- what is left

-- the request whose turn it is then
abbrev pub stage_after : Stage → Result Heard AdminFault → Stage
stage_after stage (Ok hears.More) = stage
stage_after stage (Ok hears.Next) = next stage
stage_after stage (Ok hears.Done) = stages.Ended
stage_after stage (Ok (hears.Topics topics)) = stages.Ended
stage_after stage (Err fault) = stages.Ended

abbrev pub unread_after : Result Heard AdminFault → List ℕ → List ℕ
unread_after (Ok hears.More) unread = unread
unread_after (Ok hears.Next) unread = []
unread_after (Ok hears.Done) unread = []
unread_after (Ok (hears.Topics topics)) unread = []
unread_after (Err fault) unread = []

-- another request has its turn, or it ended
abbrev pub settled : Result Heard AdminFault → Session → Session
settled result s = record s { stage = stage_after s.stage result; unread = unread_after result s.unread }

-- What input leaves.
abbrev pub moved : Result Heard AdminFault → List ℕ → Session → Session
moved result came s = settled result (record s { unread = came })
