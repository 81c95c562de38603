-- What a connection gets that is never bound: the answers of the greeting to its own pieces, with no world in it.
use Rattle.std.specs.Prelude.{ℕ, ◌==◌, List, [], ◌∷◌, if◌then◌else◌, Option, Some, None}
use Rattle.kb_isolation_spec.specs.Session.{Session, new_session, fed}
use Rattle.kb_isolation_spec.specs.Greeting.{Setup}
use Rattle.kb_isolation_spec.specs.Machine.{Happening, Opens, Comes, Closes, Moment, Sent, find_line}
use Rattle.kb_isolation_spec.specs.Owners.{greeted_so_far}
use Rattle.kb_isolation_spec.specs.Broker.{BrokerState}

-- the pieces that come on a connection until it closes
abbrev pub pieces_of : ℕ → List Happening → List (List ℕ)
pieces_of n [] = []
pieces_of n (Opens m ∷ es) = pieces_of n es
pieces_of n (Comes m piece ∷ es) = if m == n then piece ∷ pieces_of n es else pieces_of n es
pieces_of n (Closes m ∷ es) = if m == n then [] else pieces_of n es
pieces_of n (Moment now ∷ es) = pieces_of n es

-- a greeting connection after those pieces: each is taken, and then the requests are answered that are whole
abbrev pub greeting : Setup → Session → List (List ℕ) → Session
greeting setup s [] = s
greeting setup s (piece ∷ pieces) = greeting setup (greeted_so_far setup (fed piece s)) pieces

-- a connection in the end, if an event opens it
abbrev pub once_opened : Setup → ℕ → List Happening → Option Session
once_opened setup n [] = None
once_opened setup n (Opens m ∷ es) = if m == n then Some (greeting setup (new_session setup.request_bytes) (pieces_of n es)) else once_opened setup n es
once_opened setup n (Comes m piece ∷ es) = once_opened setup n es
once_opened setup n (Closes m ∷ es) = once_opened setup n es
once_opened setup n (Moment now ∷ es) = once_opened setup n es

-- a connection in the end, by what it is before the events
abbrev pub greeted_from : Setup → ℕ → Option Session → List Happening → Option Session
greeted_from setup n None es = once_opened setup n es
greeted_from setup n (Some s) es = Some (greeting setup s (pieces_of n es))

abbrev pub sent_by : ℕ → Option Session → List Sent
sent_by n None = []
sent_by n (Some s) = record { number = n; bytes = s.output; shut = s.shut; why = s.why } ∷ []

-- what it got, and whether it was shut
abbrev pub greeted_alone : ℕ → List Happening → BrokerState → List Sent
greeted_alone n es b = sent_by n (greeted_from b.setup n (find_line n b.lines) es)
