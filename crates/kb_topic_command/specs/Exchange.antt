-- What goes to and fro between a session and a broker.
use Rattle.std.specs.Prelude.{◌≡◌, ℕ, List, [], ◌∷◌, ◌++◌, Option, Some, None, Result, Ok, Err}
use Rattle.std.specs.List.{concat}
use Rattle.std.specs.Io.KnownBytes.{Appends, Consumes}
use Rattle.kb_admin.specs.declared.fault.AdminFault.{AdminFault}
use Rattle.kb_admin.specs.declared.fault.AdminFault.TheVariants.{Refused, Protocol, Memory}
use Rattle.kb_admin.specs.declared.session.Heard.{Heard}
use Rattle.kb_admin.specs.declared.session.Heard.TheVariants as hears
use Rattle.kb_admin.specs.Session.{Session, asked_text, heard, moved}
use Rattle.kb_topic_command.specs.declared.fault.TopicFault.{TopicFault}
use Rattle.kb_topic_command.specs.declared.fault.TopicFault.TheVariants as faults

-- what a piece of what the broker sent comes to
abbrev pub heard_from : List ℕ → Session → Result Heard AdminFault
heard_from piece s = heard (s.unread ++ piece) s

-- the session behind it
abbrev pub session_after : List ℕ → Session → Session
session_after piece s = moved (heard_from piece s) (s.unread ++ piece) s

-- the request that follows: none where less than a reply came, and none behind the last one
abbrev pub next_text : Result Heard AdminFault → Session → List ℕ
next_text (Ok hears.Next) s = asked_text s.stage s
next_text (Ok hears.More) s = []
next_text (Ok hears.Done) s = []
next_text (Ok (hears.Topics topics)) s = []
next_text (Err fault) s = []

-- the session behind some pieces, one after another
abbrev pub after_all : List (List ℕ) → Session → Session
after_all [] s = s
after_all (p ∷ ps) s = after_all ps (session_after p s)

-- the requests that follow them
abbrev pub sent_after : List (List ℕ) → Session → List ℕ
sent_after [] s = []
sent_after (p ∷ ps) s = next_text (heard_from p s) (session_after p s) ++ sent_after ps (session_after p s)

-- neither an answer nor a fault ends it
abbrev pub IsPending : Result Heard AdminFault → Type 0
IsPending (Ok hears.More) = Unit {0}
IsPending (Ok hears.Next) = Unit {0}
IsPending (Ok hears.Done) = ⊥
IsPending (Ok (hears.Topics topics)) = ⊥
IsPending (Err fault) = ⊥

-- none of some pieces ends it
abbrev pub ArePending : List (List ℕ) → Session → Type 0
ArePending [] s = Unit {0}
ArePending (p ∷ ps) s = IsPending (heard_from p s) × ArePending ps (session_after p s)

-- A session sends its first request. It takes pieces, and sends each request that they call for. With a last piece comes the answer.
pub record Answers (s : Session) (answer : Result Heard AdminFault) (from to before behind : Option (List ℕ)) : Type 0 where
  pub pieces : List (List ℕ)
  pub last : List ℕ
  pub came : Consumes from to (concat pieces ++ last)
  pub on : ArePending pieces s
  pub sent : Appends before behind (asked_text s.stage s ++ sent_after pieces s)
  pub answered : heard_from last (after_all pieces s) ≡ answer

-- an answer that ends it: the topic was made or deleted, or these are the topics
abbrev pub IsLast : Heard → Type 0
IsLast hears.More = ⊥
IsLast hears.Next = ⊥
IsLast hears.Done = Unit {0}
IsLast (hears.Topics topics) = Unit {0}

-- a piece comes, and comes to an answer
pub record Receives (s : Session) (answer : Result Heard AdminFault) (from to : Option (List ℕ)) (new : Session) : Type 0 where
  pub piece : List ℕ
  pub came : Consumes from to piece
  pub answered : heard_from piece s ≡ answer
  pub behind : new ≡ session_after piece s

-- No answer comes: none of the pieces that come ends it.
pub record Waits (s : Session) (from to : Option (List ℕ)) : Type 0 where
  pub pieces : List (List ℕ)
  pub came : Consumes from to (concat pieces)
  pub on : ArePending pieces s

-- a piece comes, and the request that it calls for is sent
pub record Steps (s : Session) (from to before behind : Option (List ℕ)) (new : Session) : Type 0 where
  pub answer : Result Heard AdminFault
  pub on : IsPending answer
  pub hears : Receives s answer from to new
  pub sent : Appends before behind (next_text answer new)

-- that, or an answer that ends it, behind which nothing is sent
abbrev pub Turns : Session → Option Heard → Option (List ℕ) → Option (List ℕ) → Option (List ℕ) → Option (List ℕ) → Session → Type 0
Turns s None from to before behind new = Steps s from to before behind new
Turns s (Some heard) from to before behind new = IsLast heard × Receives s (Ok heard) from to new × (behind ≡ before)

-- a piece comes that ends it with a fault of the broker's
abbrev pub FailsAt : Session → AdminFault → Option (List ℕ) → Option (List ℕ) → Option (List ℕ) → Option (List ℕ) → Session → Type 0
FailsAt s fault from to before behind new = Receives s (Err fault) from to new × (behind ≡ before)

-- A fault is the program's own, as no memory, or that no answer comes; or the broker's. Of the last two a statement holds.
abbrev pub BlamesBroker : (AdminFault → Type 0) → Type 0 → TopicFault → Type 0
BlamesBroker Fails Waiting (faults.Admin (Refused code) None) = Fails (Refused code)
BlamesBroker Fails Waiting (faults.Admin Protocol None) = Fails Protocol
BlamesBroker Fails Waiting (faults.Admin Memory None) = ⊥
BlamesBroker Fails Waiting (faults.Admin fault (Some meaning)) = ⊥
BlamesBroker Fails Waiting faults.Memory = Unit {0}
BlamesBroker Fails Waiting faults.Silent = Waiting
BlamesBroker Fails Waiting (faults.Words text) = ⊥
BlamesBroker Fails Waiting (faults.Connect address) = ⊥
BlamesBroker Fails Waiting faults.Write = ⊥

-- the program's own
abbrev pub IsOwn : TopicFault → Type 0
IsOwn fault = BlamesBroker (λ _. ⊥) (Unit {0}) fault
