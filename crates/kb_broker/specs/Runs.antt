-- Whole runs: what comes in, what goes out, and the states in between.
use Rattle.std.specs.Prelude.{◌≡◌, ℕ, List, [], ◌∷◌, ◌++◌, length, map, Bool, true, false, Some, ◌⊎◌}
use Rattle.kb_isolation_spec.specs.declared.shut.Shut.TheVariants as causes
use Rattle.kb_isolation_spec.specs.Machine.{Happening, Opens, Comes, Closes, Moment, Line, Sent, by_number, leaving, sent, step, those_sent}
use Rattle.kb_isolation_spec.specs.Broker.{BrokerState, IsReady, IsStep, IsUnowned, alone_unowned, only, owned_by}
use Rattle.kb_isolation_spec.specs.Calls.{opened, closed, IsRefusedUnbound}
use Rattle.kb_isolation_spec.specs.Told.{quieted, quieted_lines}
use Rattle.kb_isolation_spec.specs.Owners.{purge}
use Rattle.kb_isolation_spec.specs.Greetings.{greeted_alone}
use Rattle.kb_broker.specs.Truth.{IsSettled, MayAct, Own, SpeaksAt, own_of}
use Rattle.kb_broker.specs.declared.run.Event.{Event}
use Rattle.kb_broker.specs.declared.run.Event.TheVariants as events
use Rattle.kb_broker.specs.declared.run.Written.{Written}

-- 1. The code's types in the machine's words

abbrev pub happening_of : Event → Happening
happening_of (events.Open n) = Opens n
happening_of (events.In n piece) = Comes n piece.items
happening_of (events.Close n) = Closes n
happening_of (events.At now) = Moment now

abbrev pub happenings : List Event → List Happening
happenings es = map happening_of es

abbrev pub sent_of : Written → Sent
sent_of w = record { number = w.conn; bytes = w.bytes.items; shut = w.shut; why = w.why }

-- 2. Numbers

abbrev pub numbers_of_lines : List Line → List ℕ
numbers_of_lines lines = map (λ (l : Line). l.number) lines

-- of the connections that events open
abbrev pub opening : List Happening → List ℕ
opening [] = []
opening (Opens n ∷ es) = n ∷ opening es
opening (Comes n piece ∷ es) = opening es
opening (Closes n ∷ es) = opening es
opening (Moment now ∷ es) = opening es

abbrev pub is_opening : Event → Bool
is_opening (events.Open n) = true
is_opening (events.In n piece) = false
is_opening (events.Close n) = false
is_opening (events.At now) = false

-- of the connections open at entry, and then of those that events open
abbrev pub connections_of : List Happening → BrokerState → List ℕ
connections_of es b = numbers_of_lines b.lines ++ opening es

-- 3. The states in between

-- what stands for a connection that could not be kept: nothing was sent to it, and it is shut for want of memory
abbrev pub unkept : ℕ → Sent
unkept n = record { number = n; bytes = []; shut = true; why = Some causes.Memory }

-- where an event leads, and which connections it ends: one that cannot be kept, and one that closes
abbrev pub Leads : Happening → BrokerState → BrokerState → List Sent → Type 0
Leads (Opens n) old new ended = ((new ≡ opened old n) × (ended ≡ [])) ⊎ (IsRefusedUnbound old new × (ended ≡ unkept n ∷ []))
Leads (Comes n piece) old new ended = (numbers_of_lines new.lines ≡ numbers_of_lines old.lines) × (ended ≡ [])
Leads (Closes n) old new ended = (new ≡ closed old n) × (ended ≡ leaving (Closes n) old.lines)
Leads (Moment now) old new ended = (numbers_of_lines new.lines ≡ numbers_of_lines old.lines) × (ended ≡ [])

-- the output of every connection was taken
abbrev pub emptied : BrokerState → BrokerState
emptied b = record b { lines = quieted_lines b.lines }

-- one event: a step, in which each tenant is told the truth, up to its end, unless the store lied
pub record IsPassed (honest : Type 0) (e : Happening) (old new : BrokerState) (ended : List Sent) : Type 0 where
  pub step : honest → IsStep e old new
  pub spoken : honest → SpeaksAt e old new
  pub ready : honest → IsReady new
  pub leads : Leads e old new ended

-- events, one after another, and what each connection got: those that ended, in order, and then those that are still open, whose output
-- is taken
abbrev pub PassesEvents : Type 0 → List Happening → BrokerState → BrokerState → List Sent → Type 0
PassesEvents honest [] old new got = (new ≡ emptied old) × (got ≡ map sent old.lines)
PassesEvents honest (e ∷ es) old new got = (next : BrokerState) × (ended later : List Sent) × IsPassed honest e old next ended
    × PassesEvents honest es next new later × (got ≡ ended ++ later)

-- 4. One connection's, and one tenant's

-- What a connection without owner got is what a machine with nothing in it but that connection writes, and that is what the greeting answers
-- to its own pieces.
pub record IsStrangersRun (n : ℕ) (es : List Happening) (old : BrokerState) (written : List Sent) : Type 0 where
  pub alone : those_sent (only n) written ≡ by_number (alone_unowned n es old)
  pub greeted : those_sent (only n) written ≡ greeted_alone n es old

-- which connections an event ends: one that is not kept, and one that closes
abbrev pub MayEnd : Happening → Own → Own → List Sent → Type 0
MayEnd (Opens n) old new ended =
    ((new ≡ record old { view = step (Opens n) old.view }) × (ended ≡ [])) ⊎ ((new ≡ old) × (ended ≡ unkept n ∷ []))
MayEnd (Comes n piece) old new ended = ended ≡ []
MayEnd (Closes n) old new ended = ended ≡ leaving (Closes n) old.view.lines
MayEnd (Moment now) old new ended = ended ≡ []

-- what the machine of the tenant alone may do and write, one event after another: the connections that ended, in order, and then those
-- that are still open, whose output is taken
abbrev pub MayRun : ℕ → List Happening → Own → Own → List Sent → Type 0
MayRun t [] old new got = (new ≡ record old { view = quieted old.view }) × (got ≡ map sent old.view.lines)
MayRun t (e ∷ es) old new got = (next : Own) × (ended later : List Sent) × MayAct t e old next × IsSettled next
    × MayEnd e old next ended × MayRun t es next new later × (got ≡ ended ++ later)

-- What those connections got is what the machine of that tenant alone may write, given their events and the moments.
pub record IsOwnRun (t : ℕ) (mine : ℕ → Bool) (es : List Happening) (old new : BrokerState) (written : List Sent) : Type 0 where
  pub got : List Sent
  pub run : MayRun t (purge mine es) (own_of t mine old) (own_of t mine new) got
  pub sent : those_sent mine written ≡ by_number got

-- So it is of each tenant and its connections, and of each connection without owner and a tenant that there is not.
pub record AreOwnRuns (es : List Happening) (old new : BrokerState) (written : List Sent) : Type 0 where
  pub tenants : (t : ℕ) → IsOwnRun t (owned_by t es old) es old new written
  pub strangers : (n : ℕ) → IsUnowned n es old → IsOwnRun (length old.tenants) (only n) es old new written
