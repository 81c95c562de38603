-- What holds of a producer, its receiver and what is under way between them, whatever happened.
use Rattle.std.proofs.Common.{◌≡◌, ℕ, Bool, true, false, List, [], ◌∷◌, ◌++◌, length, map, Option, Some, None, refl, inl, inr}
use Rattle.std.specs.Prelude.{FitsSigned, ◌⊎◌}
use Rattle.std.specs.Int.{w32}
use Rattle.kb_api_group.specs.Frames.{Whole}
use Rattle.kb_api_group.specs.ClientFrames.{front}
use Rattle.kb_client.specs.declared.stage.ProducerId.{ProducerId}
use Rattle.kb_client.specs.declared.stage.Ending.TheVariants as endings
use Rattle.kb_client.specs.declared.stage.Stage.{Stage}
use Rattle.kb_client.specs.declared.stage.Stage.TheVariants as stages
use Rattle.kb_client.specs.Stages.{fault_of}
use Rattle.kb_client.specs.Sent.{Line, Target}
use Rattle.kb_client.specs.Requests.{plain_message}
use Rattle.kb_client.specs.Producer.{Producer, heard, IsRequest}
use Rattle.kb_client_spec.specs.Receiver.{Receiver, Stored, Login, Greets, Shaken, LoggedIn, knows}
use Rattle.kb_client_spec.specs.Sending.{Delivery, IsTyped}

-- ---- which lines are stored

abbrev pub stored_by : ProducerId → Line → Stored
stored_by id line = record { producer = id; value = line.value }

-- those that are acknowledged, or one more
abbrev pub IsStored : ProducerId → List Line → List Line → List Stored → Type 0
IsStored id done lines stored = (stored ≡ map (stored_by id) done) ⊎ ((line : Line) × (rest : List Line) × (lines ≡ line ∷ rest) × (stored ≡ map (stored_by id) (done ++ line ∷ [])))

-- all under the id that was answered
abbrev pub IsOwner : ProducerId → Option ProducerId → List Line → List Stored → Type 0
IsOwner id producer done stored = (producer ≡ Some id) ⊎ ((producer ≡ None) × (done ≡ []) × (stored ≡ []))

pub record Counts (producer : Option ProducerId) (acknowledged : ℕ) (lines handed : List Line) (stored : List Stored) : Type 0 where
  pub done : List Line
  pub id : ProducerId
  pub split : handed ≡ done ++ lines
  pub count : acknowledged ≡ length done
  pub owner : IsOwner id producer done stored
  pub some : IsStored id done lines stored

-- ---- how far the two are

-- the login that the receiver has seen, at a stage of the producer
abbrev pub Ready : Bool → Stage → Option ProducerId → Login → Type 0
Ready known stages.Closed producer login = Unit {0}
Ready known stages.Handshake producer login = login ≡ Greets
Ready known stages.Authenticate producer login = login ≡ Shaken
Ready known (stages.Create n) producer login = (login ≡ LoggedIn) × FitsSigned w32 n
Ready known stages.Identify producer login = (login ≡ LoggedIn) × (producer ≡ None)
Ready known (stages.Produce id) producer login = (login ≡ LoggedIn) × (producer ≡ Some id)
Ready known (stages.Ended ending) producer login = (ending ≡ endings.Denied) × (known ≡ false)

-- no request is under way
pub record IsQuiet (p : Producer) (r : Receiver) (to back : List ℕ) : Type 0 where
  pub idle : p.asked ≡ false
  pub unread : p.unread ≡ []
  pub read : r.unread ≡ []
  pub none_to : to ≡ []
  pub none_back : back ≡ []

-- a request is under way, and was not served
pub record IsAsking (known : Bool) (p : Producer) (r : Receiver) (to back : List ℕ) : Type 0 where
  pub asked : p.asked ≡ true
  pub unread : p.unread ≡ []
  pub request : IsRequest p.stage p (r.unread ++ to)
  pub none_back : back ≡ []
  pub ready : Ready known p.stage p.producer r.login

-- what a reply makes of the producer, whatever lines are handed in meanwhile
abbrev pub HearsAs : List ℕ → Producer → Producer → Type 0
HearsAs frame p q = (u : List ℕ) (more : List Line) → heard frame (record p { unread = u; lines = p.lines ++ more }) ≡ record q { lines = q.lines ++ more }

-- what holds once a reply was read
pub record IsSettled (known : Bool) (target : Target) (q : Producer) (handed : List Line) (r : Receiver) : Type 0 where
  pub idle : q.asked ≡ false
  pub unread : q.unread ≡ []
  pub same : q.target ≡ target
  pub typed : IsTyped q.target q.create
  pub ready : Ready known q.stage q.producer r.login
  pub counts : Counts q.producer q.acknowledged q.lines handed r.stored

-- the request was served, and its reply is under way
pub record IsAnswered (known : Bool) (p : Producer) (handed : List Line) (r : Receiver) (to back : List ℕ) : Type 0 where
  pub asked : p.asked ≡ true
  pub going : fault_of p.stage ≡ None
  pub read : r.unread ≡ []
  pub none_to : to ≡ []
  pub frame : List ℕ
  pub whole : front (p.unread ++ back) ≡ Whole frame []
  pub next : Producer
  pub hears : HearsAs frame p next
  pub settled : IsSettled known p.target next handed r

abbrev pub Phase : Bool → Producer → List Line → Receiver → List ℕ → List ℕ → Type 0
Phase known p handed r to back = (IsQuiet p r to back × Ready known p.stage p.producer r.login) ⊎ (IsAsking known p r to back ⊎ IsAnswered known p handed r to back)

pub record Holds (known : Bool) (w : Delivery) : Type 0 where
  pub login : knows w.receiver.users (plain_message w.core.target) ≡ known
  pub typed : IsTyped w.core.target w.core.create
  pub counts : Counts w.core.producer w.core.acknowledged w.core.lines w.handed w.receiver.stored
  pub phase : Phase known w.core w.handed w.receiver w.requests w.answers

-- ---- a fault stands only where the login is wrong

ready_going : (stage : Stage) (producer : Option ProducerId) (login : Login) → Ready true stage producer login → fault_of stage ≡ None
ready_going stages.Closed producer login h = refl
ready_going stages.Handshake producer login h = refl
ready_going stages.Authenticate producer login h = refl
ready_going (stages.Create n) producer login h = refl
ready_going stages.Identify producer login h = refl
ready_going (stages.Produce id) producer login h = refl
ready_going (stages.Ended ending) producer login h = let no : true ≡ false = h.1 in absurd cc

pub request_going : (stage : Stage) (p : Producer) (text : List ℕ) → IsRequest stage p text → fault_of stage ≡ None
request_going stages.Closed p text h = absurd h
request_going stages.Handshake p text h = refl
request_going stages.Authenticate p text h = refl
request_going (stages.Create n) p text h = refl
request_going stages.Identify p text h = refl
request_going (stages.Produce id) p text h = refl
request_going (stages.Ended ending) p text h = absurd h

phase_going : (p : Producer) (handed : List Line) (r : Receiver) (to back : List ℕ) → Phase true p handed r to back → fault_of p.stage ≡ None
phase_going p handed r to back (inl h) = ready_going p.stage p.producer r.login h.1
phase_going p handed r to back (inr (inl h)) = request_going p.stage p (r.unread ++ to) h.request
phase_going p handed r to back (inr (inr h)) = h.going

pub holds_going : (w : Delivery) → Holds true w → fault_of w.core.stage ≡ None
holds_going w h = phase_going w.core w.handed w.receiver w.requests w.answers h.phase
