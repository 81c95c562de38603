-- What is told of a session to the one who asked for its task.
use Rattle.std.specs.Prelude.{◌≡◌, ℕ, ℤ, List, Option, Some, None, Ok, Err, string_bytes}
use Rattle.std.specs.Io.KnownBytes.{Appends}
use Rattle.kb_admin.specs.declared.fault.AdminFault.TheVariants.{Refused, Protocol, Memory}
use Rattle.kb_admin.specs.declared.session.Heard.{Heard}
use Rattle.kb_admin.specs.declared.task.Task.{Task}
use Rattle.kb_admin.specs.Session.{Session}
use Rattle.kb_topic_command.specs.declared.fault.TopicFault.{TopicFault}
use Rattle.kb_topic_command.specs.declared.fault.TopicFault.TheVariants as faults
use Rattle.kb_topic_command.specs.Exchange.{Answers, IsLast, Waits}
use Rattle.kb_topic_command.specs.Meaning.{meaning}
use Rattle.kb_topic_command.specs.Printing.{answer_text}

-- What is printed is the text of what the broker answered, and nothing else.
pub record Prints (s : Session) (from to before behind had has : Option (List ℕ)) : Type 0 where
  pub heard : Heard
  pub last : IsLast heard
  pub answered : Answers s (Ok heard) from to before behind
  pub printed : Appends had has (answer_text s.task heard)

-- a refusal with what its code says of a task, unless memory ran out for that
abbrev pub ExplainsCode : Task → ℤ → TopicFault → Type 0
ExplainsCode task code (faults.Admin (Refused same) None) = same ≡ code
ExplainsCode task code (faults.Admin (Refused same) (Some text)) = (same ≡ code) × (string_bytes text ≡ meaning task code)
ExplainsCode task code (faults.Admin Protocol text) = ⊥
ExplainsCode task code (faults.Admin Memory text) = ⊥
ExplainsCode task code (faults.Words text) = ⊥
ExplainsCode task code faults.Memory = ⊥
ExplainsCode task code (faults.Connect address) = ⊥
ExplainsCode task code faults.Silent = ⊥
ExplainsCode task code faults.Write = ⊥

-- any other fault stays as it is
abbrev pub Explains : Task → TopicFault → TopicFault → Type 0
Explains task (faults.Admin (Refused code) text) new = ExplainsCode task code new
Explains task (faults.Admin Protocol text) new = new ≡ faults.Admin Protocol text
Explains task (faults.Admin Memory text) new = new ≡ faults.Admin Memory text
Explains task (faults.Words text) new = new ≡ faults.Words text
Explains task faults.Memory new = new ≡ faults.Memory
Explains task (faults.Connect address) new = new ≡ faults.Connect address
Explains task faults.Silent new = new ≡ faults.Silent
Explains task faults.Write new = new ≡ faults.Write

-- the broker answered
pub record IsAnswered (s : Session) (from to before behind : Option (List ℕ)) : Type 0 where
  pub heard : Heard
  pub last : IsLast heard
  pub answered : Answers s (Ok heard) from to before behind

-- A refusal that is told is what the broker answered, and what stands behind it is what its code says of the task. The broker is told to be
-- silent where no answer came, and a fault of printing where one came.
abbrev pub TellsFault : Session → Option (List ℕ) → Option (List ℕ) → Option (List ℕ) → Option (List ℕ) → TopicFault → Type 0
TellsFault s from to before behind (faults.Admin (Refused code) None) = Answers s (Err (Refused code)) from to before behind
TellsFault s from to before behind (faults.Admin (Refused code) (Some text)) =
    Answers s (Err (Refused code)) from to before behind × (string_bytes text ≡ meaning s.task code)
TellsFault s from to before behind (faults.Admin Protocol None) = Answers s (Err Protocol) from to before behind
TellsFault s from to before behind (faults.Admin Protocol (Some text)) = ⊥
TellsFault s from to before behind (faults.Admin Memory text) = ⊥
TellsFault s from to before behind faults.Memory = Unit {0}
TellsFault s from to before behind faults.Silent = Waits s from to
TellsFault s from to before behind faults.Write = IsAnswered s from to before behind
TellsFault s from to before behind (faults.Words text) = ⊥
TellsFault s from to before behind (faults.Connect address) = ⊥
