-- What a script does to a broker, and what is written then.
use Rattle.std.specs.Prelude.{◌≡◌, ◌≢◌, ℕ, ◌+◌, List, [], ◌∷◌, ◌++◌, length, map, All, Bool, true, false, not, ◌&&◌, Option, Some, None}
use Rattle.std.specs.List.{AllByRecursion}
use Rattle.std.specs.Io.BufRead.{take_through}
use Rattle.std.specs.Io.KnownBytes.{Appends, Consumes}
use Rattle.kb_isolation_spec.specs.Machine.{Happening, Line, Sent}
use Rattle.kb_isolation_spec.specs.Broker.{BrokerState, IsReady, IsStep}
use Rattle.kb_isolation_spec.specs.Calls.{is_open, is_calm}
use Rattle.kb_isolation_spec.specs.Told.{quieted_lines, said, Tells}
use Rattle.kb_broker.specs.declared.script.ScriptFault.{ScriptFault}
use Rattle.kb_broker.specs.declared.script.ScriptFault.TheVariants as faults
use Rattle.kb_broker.specs.Places.{waits_in}
use Rattle.kb_broker.specs.Script.{Place, Course, Plays, Passes, Stops, Script, after_event, here, pieces, said_by, step_text, script_text}

-- 1. One event

-- no connection has untaken output
abbrev pub IsQuiet : BrokerState → Type 0
IsQuiet b = AllByRecursion (λ (l : Line). l.session.output ≡ []) b.lines

-- all output was taken
abbrev pub hushed : BrokerState → BrokerState
hushed b = record b { lines = quieted_lines b.lines }

-- no connection waits
abbrev pub NoneWaits : BrokerState → Type 0
NoneWaits b = AllByRecursion (λ (l : Line). waits_in (Some l.session) ≡ false) b.lines

pub record IsPlaceIn (p : Place) (b : BrokerState) : Type 0 where
  pub open_now : (k : ℕ) → p.open_now k ≡ is_open k b
  pub last : p.last ≡ b.last

-- an event happened to a broker, and nothing was refused
pub record Happens (e : Happening) (old new : BrokerState) : Type 0 where
  pub step : IsStep e old new
  pub ready : IsReady new
  pub calm : is_calm new ≡ true
  pub stands : IsPlaceIn (after_event e (here old)) new

-- what the broker said at an event
abbrev pub words : BrokerState → BrokerState → List ℕ
words old new = step_text (said old.lines new.lines)

-- whether each connection is shut, in order
abbrev pub shut_marks : List Line → List Bool
shut_marks lines = map (λ (l : Line). l.session.shut) lines

-- what each connection got, and whether it is shut where it was not, by the marks of those that were shut
abbrev pub said_since : List Bool → List Line → List Sent
said_since [] lines = []
said_since (was_shut ∷ marks) [] = []
said_since (was_shut ∷ marks) (l ∷ lines) =
    record { number = l.number; bytes = l.session.output; shut = l.session.shut && not was_shut; why = l.session.why }
    ∷ said_since marks lines

-- it happened, and the broker said nothing
pub record HappensSilently (e : Happening) (old new : BrokerState) : Type 0 where
  pub happens : Happens e old new
  pub quiet : IsQuiet new
  pub silent : words old new ≡ []

-- it happened, and what the broker said was taken and written
abbrev pub IsSpoken : Happening → BrokerState → BrokerState → Option (List ℕ) → Option (List ℕ) → Type 0
IsSpoken e old final from to = (new : BrokerState) × Happens e old new × (final ≡ hushed new) × Appends from to (words old new)

-- it happened, and the writer failed: the front of what the broker said was written
abbrev pub IsCutOff : Happening → BrokerState → Option (List ℕ) → Option (List ℕ) → Type 0
IsCutOff e old from to =
    (new : BrokerState) × Happens e old new × (front : List ℕ) × (rest : List ℕ) × (words old new ≡ front ++ rest) × Appends from to front

-- a text was not written: of it there is the front where the writer failed, and nothing where memory was refused
abbrev pub IsUnwritten : ScriptFault → List ℕ → Option (List ℕ) → Option (List ℕ) → Type 0
IsUnwritten (faults.BadLine k) text from to = ⊥
IsUnwritten faults.TooLong text from to = ⊥
IsUnwritten faults.Read text from to = ⊥
IsUnwritten faults.Write text from to = (front : List ℕ) × (rest : List ℕ) × (text ≡ front ++ rest) × Appends from to front
IsUnwritten faults.Memory text from to = Appends from to []

-- a line that was played
abbrev pub IsLinePlayed : Course → BrokerState → BrokerState → Option (List ℕ) → Option (List ℕ) → Type 0
IsLinePlayed (Plays e) old final from to = IsSpoken e old final from to
IsLinePlayed Passes old final from to = (final ≡ old) × Appends from to []
IsLinePlayed (Stops fault) old final from to = ⊥

-- a line at which the script ended
abbrev pub IsBroken : Course → ScriptFault → BrokerState → Option (List ℕ) → Option (List ℕ) → Type 0
IsBroken course (faults.BadLine k) old from to = (course ≡ Stops (faults.BadLine k)) × Appends from to []
IsBroken course faults.TooLong old from to = ⊥
IsBroken course faults.Read old from to = ⊥
IsBroken course faults.Write old from to = (e : Happening) × (course ≡ Plays e) × IsCutOff e old from to
IsBroken course faults.Memory old from to = Appends from to []

-- 2. A whole script

-- a machine's steps at those events, and their text was written
abbrev pub AreStepsWritten : BrokerState → List Happening → Option (List ℕ) → Option (List ℕ) → Type 0
AreStepsWritten b es from to = (steps : List (List Sent)) × Tells b es steps × Appends from to (script_text steps)

-- and their text was written, of the last step the front alone
abbrev pub IsWrittenInPart : BrokerState → List Happening → Option (List ℕ) → Option (List ℕ) → Type 0
IsWrittenInPart b es from to = (steps : List (List Sent)) × (last : List Sent) × Tells b es (steps ++ last ∷ []) × (front : List ℕ)
    × (rest : List ℕ) × (step_text last ≡ front ++ rest) × Appends from to (script_text steps ++ front)

-- some of the events, from the first on
abbrev pub OfSome : List Happening → (List Happening → Type 0) → Type 0
OfSome events P = (es : List Happening) × (rest : List Happening) × (events ≡ es ++ rest) × P es

-- the whole script was played
abbrev pub IsPlayed : BrokerState → Script → Option (List ℕ) → Option (List ℕ) → Type 0
IsPlayed b s from to = (s.fault ≡ None) × AreStepsWritten b s.events from to

-- it ended with a fault: a bad line or too long a script is that of the text, and all before it was played; any other ended it earlier
abbrev pub IsEnded : BrokerState → Script → ScriptFault → Option (List ℕ) → Option (List ℕ) → Type 0
IsEnded b s (faults.BadLine k) from to = (s.fault ≡ Some (faults.BadLine k)) × AreStepsWritten b s.events from to
IsEnded b s faults.TooLong from to = (s.fault ≡ Some faults.TooLong) × AreStepsWritten b s.events from to
IsEnded b s faults.Read from to = OfSome s.events (λ es. AreStepsWritten b es from to)
IsEnded b s faults.Write from to = OfSome s.events (λ es. IsWrittenInPart b es from to)
IsEnded b s faults.Memory from to = OfSome s.events (λ es. AreStepsWritten b es from to)

-- 3. Which lines were played

-- a text of which the front was taken, with no line feed in it
abbrev pub IsCut : Option (List ℕ) → Option (List ℕ) → Type 0
IsCut old new = (front : List ℕ) × All (λ x. x ≢ 10) front × Consumes old new front

abbrev pub IsPrefixOf : List ℕ → List ℕ → Type 0
IsPrefixOf front text = (rest : List ℕ) × (text ≡ front ++ rest)

-- of a text those lines were taken, whole, and of the next one that front; what is left stands behind it
pub record AreTaken (text : List ℕ) (left : Option (List ℕ)) (lines : List (List ℕ)) (front : List ℕ) : Type 0 where
  pub behind : List ℕ
  pub left_is : left ≡ Some behind
  pub lines_are : pieces text ≡ lines ++ pieces (front ++ behind)
  pub within : IsPrefixOf front (take_through 10 (front ++ behind))

-- those lines were played, and what the broker said to them was written
abbrev pub ArePlayed : BrokerState → List (List ℕ) → Option (List ℕ) → Option (List ℕ) → Type 0
ArePlayed b lines from to = IsPlayed b (said_by b lines) from to

-- the same, but of what it said to the last of them the front alone was written
abbrev pub ArePlayedInPart : BrokerState → List (List ℕ) → Option (List ℕ) → Option (List ℕ) → Type 0
ArePlayedInPart b lines from to = ((said_by b lines).fault ≡ None) × IsWrittenInPart b (said_by b lines).events from to

-- what was played where that fault ended a script: the lines before the one that is at fault, that could not be read to its end, or in
-- which memory was refused; at a write fault that one too
abbrev pub HavePlayed : ScriptFault → BrokerState → List (List ℕ) → List ℕ → Option (List ℕ) → Option (List ℕ) → Type 0
HavePlayed (faults.BadLine k) b lines front from to = (k ≡ length lines + 1) × ArePlayed b lines from to
HavePlayed faults.TooLong b lines front from to = ArePlayed b lines from to
HavePlayed faults.Read b lines front from to = All (λ x. x ≢ 10) front × ArePlayed b lines from to
HavePlayed faults.Write b lines front from to = (front ≡ []) × ArePlayedInPart b lines from to
HavePlayed faults.Memory b lines front from to = ArePlayed b lines from to

-- a script ended with that fault, and the reader has so much of its text left
abbrev pub IsStopped : BrokerState → List ℕ → Option (List ℕ) → ScriptFault → Option (List ℕ) → Option (List ℕ) → Type 0
IsStopped b text left fault from to =
    (lines : List (List ℕ)) × (front : List ℕ) × AreTaken text left lines front × HavePlayed fault b lines front from to
