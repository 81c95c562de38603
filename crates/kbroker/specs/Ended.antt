-- How the program ends.
use Rattle.std.specs.Prelude.{◌≡◌, ◌≢◌, ℕ, Result, Ok, Err}
use Rattle.clap.specs.Values.{kind_of}
use Rattle.clap.specs.declared.error.Error.{Error}
use Rattle.clap.specs.declared.error.kind.ErrorKind.{ErrorKind}
use Rattle.clap.specs.declared.error.kind.ErrorKind.TheVariants.{DisplayHelp, DisplayVersion, OutOfMemory, ValueValidation}
use Rattle.kb_operator.specs.declared.fault.OperatorFault.TheVariants as operator
use Rattle.kb_topic_command.specs.declared.fault.TopicFault.{TopicFault}
use Rattle.kb_topic_command.specs.declared.fault.TopicFault.TheVariants as topic
use Rattle.kbroker.specs.declared.Fault.{Fault}
use Rattle.kbroker.specs.declared.Fault.TheVariants.{Words, Operator, Node, Topic, Tenant, NoFolder, Ids, Streams}

-- the fault of refused memory
abbrev pub memory : Fault
memory = Operator operator.Memory

-- the fault of a refused write
abbrev pub unwritten : Fault
unwritten = Operator operator.Write

-- what a fault of the command line is to the program: where memory was refused, that
abbrev pub IsOfWords : Error → Fault → Type 0
IsOfWords e fault = (kind_of e ≡ OutOfMemory → fault ≡ memory) × (kind_of e ≢ OutOfMemory → fault ≡ Words e)

-- the status of a command line that was not taken: 0 where it asked for help or the version, else 2
abbrev pub IsWordsStatus : Error → ℕ → Type 0
IsWordsStatus e status =
    (kind_of e ≡ DisplayHelp → status ≡ 0) × (kind_of e ≡ DisplayVersion → status ≡ 0)
    × (kind_of e ≢ DisplayHelp → kind_of e ≢ DisplayVersion → status ≡ 2)

abbrev pub IsFaultStatus : Fault → ℕ → Type 0
IsFaultStatus (Words e) status = IsWordsStatus e status
IsFaultStatus (Operator fault) status = status ≡ 1
IsFaultStatus (Node fault) status = status ≡ 1
IsFaultStatus (Topic fault) status = status ≡ 1
IsFaultStatus (Tenant fault) status = status ≡ 1
IsFaultStatus (NoFolder path) status = status ≡ 1
IsFaultStatus (Ids why) status = status ≡ 1
IsFaultStatus (Streams error) status = status ≡ 1

-- the status of the program: 0 where it did what was asked
abbrev pub IsExitStatus : {A : Type 0} → Result A Fault → ℕ → Type 0
IsExitStatus (Ok done) status = status ≡ 0
IsExitStatus (Err fault) status = IsFaultStatus fault status

-- a fault of the command line, of a kind
abbrev pub IsWords : ErrorKind → Fault → Type 0
IsWords kind (Words e) = kind_of e ≡ kind
IsWords kind fault = ⊥

-- what a fault of `kbroker topic` is to the program: wrong words are those of the command line
abbrev pub IsTopicFault : TopicFault → Fault → Type 0
IsTopicFault (topic.Words text) told = IsWords ValueValidation told
IsTopicFault topic.Memory told = told ≡ memory
IsTopicFault fault told = told ≡ Topic fault

-- the same, or that there was no memory for it
abbrev pub IsOfTopic : TopicFault → Result Fault Fault → Type 0
IsOfTopic fault (Ok told) = IsTopicFault fault told
IsOfTopic fault (Err told) = told ≡ memory
