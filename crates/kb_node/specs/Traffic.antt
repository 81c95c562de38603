-- What is done to a broker between its store and its sockets, and what a socket carries.
use Rattle.std.specs.Prelude.{◌≡◌, ℕ, List, [], ◌∷◌, Bool, true, false, Option, Some, None}
use Rattle.std.specs.List.{AllByRecursion}
use Rattle.std.specs.Io.KnownBytes.{Appends, Consumes}
use Rattle.kb_store.specs.Disk.{Disk}
use Rattle.kb_isolation_spec.specs.Machine.{Happening, Opens, Comes, Closes, Moment, Sent}
use Rattle.kb_isolation_spec.specs.Broker.{IsEventRun, IsReady, last_after}
use Rattle.kb_isolation_spec.specs.Calls.{output_taken, output_of}
use Rattle.kb_broker.specs.Hosts.{OnStore, is_honest, StepsTo}
use Rattle.kb_broker.specs.Runs.{Leads}
use Rattle.kb_broker.specs.Truth.{SpeaksAt}

-- 1. One thing after another

-- each thing of a list is done, by a step from one state to the next
abbrev pub Along : {D X : Type 0} → (D → X → X → Type 0) → List D → X → X → Type 0
Along Does [] old new = new ≡ old
Along {D} {X} Does (d ∷ ds) old new = (next : X) × Does d old next × Along Does ds next new

-- 2. What is done to a broker

-- an event, a take of a connection's output, with the bytes that it gave, a commit, or one that was refused
pub data Deed : Type 0 where
  Event : (happening : Happening) → Deed
  Take : (number : ℕ) (bytes : List ℕ) → Deed
  Commit : Deed
  Fail : Deed

-- An event: a step, in which each tenant is told the truth, up to its end, unless the store lied; and it had told the truth before if it
-- still does. The number of a connection that opens is above all before, and no moment is after MAX_CLOCK.
pub record Happens {S : Type 0} (disk : S → Disk) (e : Happening) (old new : OnStore S) : Type 0 where
  pub step : StepsTo disk e old new
  pub spoken : is_honest disk new → SpeaksAt e old.state new.state
  pub ready : is_honest disk new → IsReady new.state
  pub honest : is_honest disk new → is_honest disk old
  pub within : IsEventRun old.state.last (e ∷ [])
  pub leads : (ended : List Sent) × Leads e old.state new.state ended

-- a commit is no event: what the broker has stays, unless the store lied
pub record IsCommitted {S : Type 0} (disk : S → Disk) (old new : OnStore S) : Type 0 where
  pub state : is_honest disk new → new.state ≡ old.state
  pub honest : is_honest disk new → is_honest disk old

-- A deed is done, and that is known of the store then: of an event nothing is.
abbrev pub IsDone : {S : Type 0} → (S → Disk) → (Deed → S → Type 0) → Deed → OnStore S → OnStore S → Type 0
IsDone disk known (Event e) old new = Happens disk e old new
IsDone disk known (Take n bytes) old new =
    (new ≡ record old { state = output_taken old.state n }) × (bytes ≡ output_of n old.state) × known (Take n bytes) new.store
IsDone disk known Commit old new = IsCommitted disk old new × known Commit new.store
IsDone disk known Fail old new = IsCommitted disk old new × known Fail new.store

-- all of them are done, one after another
abbrev pub AreDone : {S : Type 0} → (S → Disk) → (Deed → S → Type 0) → List Deed → OnStore S → OnStore S → Type 0
AreDone disk known deeds old new = Along (IsDone disk known) deeds old new

-- the connection that an event is about, which is open before it
abbrev pub connection_in : Happening → Option ℕ
connection_in (Opens n) = None
connection_in (Comes n piece) = Some n
connection_in (Closes n) = Some n
connection_in (Moment now) = None

-- the connection that a deed is about
abbrev pub connection_of : Deed → Option ℕ
connection_of (Event e) = connection_in e
connection_of (Take n bytes) = Some n
connection_of Commit = None
connection_of Fail = None

-- all of them are about that connection
abbrev pub AreAbout : ℕ → List Deed → Type 0
AreAbout n deeds = AllByRecursion (λ d. connection_of d ≡ Some n) deeds

-- the bytes that were taken
abbrev pub taken_by : Deed → List ℕ
taken_by (Event e) = []
taken_by (Take n bytes) = bytes
taken_by Commit = []
taken_by Fail = []

-- the bytes that came in an event
abbrev pub piece_in : Happening → List ℕ
piece_in (Opens n) = []
piece_in (Comes n piece) = piece
piece_in (Closes n) = []
piece_in (Moment now) = []

-- the bytes that were handed on
abbrev pub handed_by : Deed → List ℕ
handed_by (Event e) = piece_in e
handed_by (Take n bytes) = []
handed_by Commit = []
handed_by Fail = []

-- the events among them, in order
abbrev pub events_of : List Deed → List Happening
events_of [] = []
events_of (Event e ∷ ds) = e ∷ events_of ds
events_of (Take n bytes ∷ ds) = events_of ds
events_of (Commit ∷ ds) = events_of ds
events_of (Fail ∷ ds) = events_of ds

-- the greatest number that a connection had, after events
abbrev pub tried_after : ℕ → List Happening → ℕ
tried_after tried [] = tried
tried_after tried (e ∷ es) = tried_after (last_after e tried) es

-- whether it is a moment
abbrev pub is_moment : Deed → Bool
is_moment (Event (Opens n)) = false
is_moment (Event (Comes n piece)) = false
is_moment (Event (Closes n)) = false
is_moment (Event (Moment now)) = true
is_moment (Take n bytes) = false
is_moment Commit = false
is_moment Fail = false

-- whether it takes output or closes a connection
abbrev pub is_telling : Deed → Bool
is_telling (Event (Opens n)) = false
is_telling (Event (Comes n piece)) = false
is_telling (Event (Closes n)) = true
is_telling (Event (Moment now)) = false
is_telling (Take n bytes) = true
is_telling Commit = false
is_telling Fail = false

-- the moments among them, in order
abbrev pub moments_of : List Deed → List ℕ
moments_of [] = []
moments_of (Event (Opens n) ∷ ds) = moments_of ds
moments_of (Event (Comes n piece) ∷ ds) = moments_of ds
moments_of (Event (Closes n) ∷ ds) = moments_of ds
moments_of (Event (Moment now) ∷ ds) = now ∷ moments_of ds
moments_of (Take n bytes ∷ ds) = moments_of ds
moments_of (Commit ∷ ds) = moments_of ds
moments_of (Fail ∷ ds) = moments_of ds

-- 3. What is done to a stream

-- bytes were written to it, or read from it
pub data Use : Type 0 where
  Write : (bytes : List ℕ) → Use
  Read : (bytes : List ℕ) → Use

-- What it holds grew by just these bytes, where that is known; or what it has left to read began with them.
abbrev pub IsUsed : {T : Type 0} → (T → Option (List ℕ)) → (T → Option (List ℕ)) → Use → T → T → Type 0
IsUsed contents remaining (Write bytes) old new = Appends (contents old) (contents new) bytes
IsUsed contents remaining (Read bytes) old new = Consumes (remaining old) (remaining new) bytes

-- whether it was written to
abbrev pub is_write : Use → Bool
is_write (Write bytes) = true
is_write (Read bytes) = false

abbrev pub written_by : Use → List ℕ
written_by (Write bytes) = bytes
written_by (Read bytes) = []

abbrev pub read_by : Use → List ℕ
read_by (Write bytes) = []
read_by (Read bytes) = bytes
