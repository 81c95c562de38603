-- What `kbroker topic` prints and tells for its words.
use Rattle.std.specs.Prelude.{◌≡◌, ℕ, List, ◌++◌, Option, Some, None, codes, string_bytes}
use Rattle.clap.specs.Words.{Row, Text}
use Rattle.kb_admin.specs.Session.{Session}
use Rattle.kb_topic_command.specs.declared.fault.TopicFault.{TopicFault}
use Rattle.kb_topic_command.specs.declared.fault.TopicFault.TheVariants as faults
use Rattle.kb_topic_command.specs.Telling.{Prints, TellsFault}
use Rattle.kb_topic_command.specs.Words.{AsksBy, IsWrong, text_for}

-- A client does what the words ask for, and what is printed is the text of what the broker answered.
pub record PrintsFor (verb : Text) (rows : List Row) (had has : Option (List ℕ)) : Type 0 where
  pub session : Session
  pub asked : AsksBy verb rows session
  pub from : Option (List ℕ)
  pub to : Option (List ℕ)
  pub before : Option (List ℕ)
  pub behind : Option (List ℕ)
  pub prints : Prints session from to before behind had has

-- and where there is no subcommand, nothing
abbrev pub PrintsAsked : Option (Text × List Row) → Option (List ℕ) → Option (List ℕ) → Type 0
PrintsAsked None had has = has ≡ had
PrintsAsked (Some found) had has = PrintsFor found.0 found.1 had has

-- a client does what the words ask for, and comes to a fault
pub record FailsFor (verb : Text) (rows : List Row) (fault : TopicFault) : Type 0 where
  pub session : Session
  pub asked : AsksBy verb rows session
  pub from : Option (List ℕ)
  pub to : Option (List ℕ)
  pub before : Option (List ℕ)
  pub behind : Option (List ℕ)
  pub tells : TellsFault session from to before behind fault

-- the address, and behind it why there is no connection to it
pub record IsUnreached (address why : Text) : Type 0 where
  pub reason : Text
  pub told : why ≡ address ++ codes ": " ++ reason

-- the fault of a connection, where memory does not run out
abbrev pub IsNoConnectionTo : Text → TopicFault → Type 0
IsNoConnectionTo address (faults.Connect why) = IsUnreached address (string_bytes why)
IsNoConnectionTo address faults.Memory = Unit {0}
IsNoConnectionTo address faults.Silent = ⊥
IsNoConnectionTo address faults.Write = ⊥
IsNoConnectionTo address (faults.Words message) = ⊥
IsNoConnectionTo address (faults.Admin fault meaning) = ⊥

-- A fault is that of the words; or, where these ask for something, of the connection to their address or of the client that does it.
abbrev pub TellsFor : Text → List Row → TopicFault → Type 0
TellsFor verb rows (faults.Words message) = IsWrong verb rows message.now
TellsFor verb rows faults.Memory = Unit {0}
TellsFor verb rows (faults.Connect why) =
    ((s : Session) × AsksBy verb rows s) × IsUnreached (text_for rows (codes "broker")) (string_bytes why)
TellsFor verb rows faults.Silent = FailsFor verb rows faults.Silent
TellsFor verb rows (faults.Admin fault meaning) = FailsFor verb rows (faults.Admin fault meaning)
TellsFor verb rows faults.Write = FailsFor verb rows faults.Write

-- and where there is no subcommand, there is none
abbrev pub TellsAsked : Option (Text × List Row) → TopicFault → Type 0
TellsAsked None fault = ⊥
TellsAsked (Some found) fault = TellsFor found.0 found.1 fault

-- but for a fault of printing, nothing is printed
abbrev pub Unprinted : TopicFault → Option (List ℕ) → Option (List ℕ) → Type 0
Unprinted faults.Write had has = Unit {0}
Unprinted faults.Memory had has = has ≡ had
Unprinted faults.Silent had has = has ≡ had
Unprinted (faults.Words message) had has = has ≡ had
Unprinted (faults.Connect why) had has = has ≡ had
Unprinted (faults.Admin fault meaning) had has = has ≡ had
