-- What a broker says to each tenant, whatever memory and the store refused: what the machine of that tenant alone may say to the tenant's own
-- events, where each of its steps may be refused something. A step in which nothing is counted for the tenant is the machine's own; a greeting
-- connection that is shut for want of memory is counted for none.
use Rattle.std.specs.Prelude.{◌≡◌, ◌≤◌, ◌+◌, ◌^◌, ◌⊎◌, ℕ, List, [], ◌∷◌, max, Bool, true, false, Some, None, ⊤}
use Rattle.kb_tenant_api.specs.Hosted as hosted
use Rattle.kb_tenant_api.specs.Hosted.{Kept}
use Rattle.kb_tenant_api.specs.Turns.{HavePassed, PassesPartly}
use Rattle.kb_tenant.specs.Told.{FailedBy}
use Rattle.kb_tenant_state.specs.Counts.{IsCalm, counted_once}
use Rattle.kb_isolation_spec.specs.declared.shut.Shut.TheVariants as causes
use Rattle.kb_isolation_spec.specs.declared.whom.Whom.{Whom}
use Rattle.kb_isolation_spec.specs.Session.{Session, Stage, Greets, BoundTo, fed, in_front, shut_down}
use Rattle.kb_isolation_spec.specs.Greeting.{Setup, for_tenant, greeted}
use Rattle.kb_isolation_spec.specs.Machine.{Happening, Opens, Comes, Closes, Moment, Line, View}
use Rattle.kb_isolation_spec.specs.Machine.{after_turn, all_woken, each_line, find_line, first_able, kept_by_turn, kept_fed, on, step, woken}
use Rattle.kb_isolation_spec.specs.Owners.{concerns}
use Rattle.kb_isolation_spec.specs.Broker.{BrokerState, IsEventRun, Mine, is_deaf, refusals_of, view_of}
use Rattle.kb_isolation_spec.specs.Calls.{moved}
use Rattle.kb_isolation_spec.specs.Turned.{Scope, Of, Everybody, AreStill, Concerns, HasTenant}
use Rattle.kb_broker.specs.Places.{HearsOf, IsDoneOrShut, IsToldBound}

-- 1. A tenant alone

-- what a tenant has of a broker: what it sees, and the count of its refusals
pub record Own : Type 0 where
  pub view : View
  pub refusals : ℕ

abbrev pub own_of : ℕ → (ℕ → Bool) → BrokerState → Own
own_of t mine b = record { view = view_of t mine b; refusals = refusals_of b t }

-- the connection of number n has the session r, that is kept, and so many refusals are counted
abbrev pub with_change : ℕ → Session → Kept → ℕ → Own → Own
with_change n r kept refusals o = record {
  view = record o.view { kept = kept; lines = each_line (on n (λ s. r)) o.view.lines };
  refusals = refusals;
}

-- a refusal, for which the connection of number n is shut, was counted: for the tenant where that is bound, and else for none
abbrev pub counted_at : ℕ → Stage → Own → Own
counted_at n (Greets greeting) o = o
counted_at n (BoundTo u wait) o =
    record { view = record o.view { kept = hosted.left o.view.clock n o.view.kept }; refusals = counted_once o.refusals }

-- 2. Steps while nothing comes

-- The turn of a connection at that stage, of number n, whatever was refused in it. It leaves r of its session s, and l of k, which was kept:
-- one that greets comes to what is defined, or is shut; one that is bound to the tenant has its request told the truth.
abbrev pub MayTake : (failed full : Type 0) → Setup → (t clock n : ℕ) → Stage → Kept → Kept → Session → Session → Type 0
MayTake failed full setup t clock n (Greets greeting) k l s r = (l ≡ k) × IsDoneOrShut (greeted setup greeting s) s r
MayTake failed full setup t clock n (BoundTo u wait) k l s r = (u ≡ t) × IsToldBound failed full setup t clock n k l s r

-- nothing is counted for a tenant where the connection is not bound
abbrev pub MayCount : Stage → ℕ → ℕ → Type 0
MayCount (Greets greeting) before after = after ≡ before
MayCount (BoundTo u wait) before after = before ≤ after

-- The least-numbered connection that can take a turn had one, while no request that waits was ready. The numbers are of the store's failures before and after, of its next file, and
-- of the commands that the catalog has recorded.
pub record MayTurn (t : ℕ) (old new : Own) : Type 0 where
  pub l : Line
  pub session : Session
  pub first : first_able old.view.lines ≡ Some l
  pub waits : all_woken old.view ≡ old.view
  pub is : new ≡ with_change l.number session new.view.kept new.refusals old
  pub counts : MayCount l.session.stage old.refusals new.refusals
  pub failed : ℕ
  pub fails : ℕ
  pub next : ℕ
  pub commands : ℕ
  pub told : MayTake (FailedBy failed fails next) (2 ^ 63 ≤ commands + 1) old.view.setup t old.view.clock l.number l.session.stage
      old.view.kept new.view.kept l.session session

-- where nothing was counted in it, it came to what is defined
abbrev pub IsDefined : (calm : Type 0) → Setup → (t clock n : ℕ) → Stage → Kept → Kept → Session → Session → Type 0
IsDefined calm setup t clock n (Greets greeting) k l s r = r ≡ greeted setup greeting s
IsDefined calm setup t clock n (BoundTo u wait) k l s r = calm → (r ≡ after_turn (for_tenant setup t) k clock n s)
    × (l ≡ kept_by_turn (for_tenant setup t) k clock n (in_front s))

-- A turn that did not shut its connection for want of memory.
pub record MayServe (t : ℕ) (old new : Own) : Type 0 where
  pub turn : MayTurn t old new
  pub exact : IsDefined (IsCalm old.refusals new.refusals) old.view.setup t old.view.clock turn.l.number turn.l.session.stage
      old.view.kept new.view.kept turn.l.session turn.session

-- A look at a connection at that stage, whatever was refused in it: a request of the tenant that waits there waits on, or is told the truth.
abbrev pub MayHear : (failed : Type 0) → (t clock n : ℕ) → Stage → Kept → Session → Session → Type 0
MayHear failed t clock n (Greets greeting) kept s r = r ≡ s
MayHear failed t clock n (BoundTo u None) kept s r = r ≡ s
MayHear failed t clock n (BoundTo u (Some w)) kept s r = (u ≡ t) × HearsOf failed clock n kept w s r

-- A connection was looked at. What is kept stays; where nothing was counted in it, it came to what is defined.
pub record MayLook (t : ℕ) (old new : Own) : Type 0 where
  pub l : Line
  pub session : Session
  pub there : find_line l.number old.view.lines ≡ Some l.session
  pub is : new ≡ with_change l.number session old.view.kept new.refusals old
  pub counts : old.refusals ≤ new.refusals
  pub failed : ℕ
  pub fails : ℕ
  pub next : ℕ
  pub told : MayHear (FailedBy failed fails next) t old.view.clock l.number l.session.stage old.view.kept l.session session
  pub exact : IsCalm old.refusals new.refusals → session ≡ woken old.view.kept old.view.clock l.number l.session

-- A turn shut its connection for want of memory, and then that was counted, once.
pub record MayShut (t : ℕ) (old new : Own) : Type 0 where
  pub left : Own
  pub turn : MayTurn t old left
  pub shut : turn.session ≡ shut_down causes.Memory turn.l.session
  pub counted : new ≡ counted_at turn.l.number turn.l.session.stage left

abbrev pub MayStep : ℕ → Own → Own → Type 0
MayStep t old new = MayServe t old new ⊎ (MayLook t old new ⊎ MayShut t old new)

abbrev pub LeadTo : ℕ → Own → List Own → Own → Type 0
LeadTo t old [] new = new ≡ old
LeadTo t old (o ∷ os) new = MayStep t old o × LeadTo t o os new

-- by such steps, one after another
pub record MayGo (t : ℕ) (old new : Own) : Type 0 where
  pub between : List Own
  pub steps : LeadTo t old between new

-- 3. Events

-- a piece came on the connection of number n
abbrev pub brought : ℕ → List ℕ → Own → Own
brought n piece o = record o {
  view = record o.view {
    kept = kept_fed piece o.view.clock n (find_line n o.view.lines) o.view.kept;
    lines = each_line (on n (fed piece)) o.view.lines;
  };
}

-- A piece that nobody takes: of no bytes, or on a number that is not open or is shut. All stays.
pub record IsIgnored (n : ℕ) (piece : List ℕ) (old new : Own) : Type 0 where
  pub untaken : (piece ≡ []) ⊎ (is_deaf (find_line n old.view.lines) ≡ true)
  pub same : new ≡ old

-- No memory was had for it: the connection was shut, and that was counted, once.
pub record MayLose (n : ℕ) (piece : List ℕ) (old new : Own) : Type 0 where
  pub session : Session
  pub there : find_line n old.view.lines ≡ Some session
  pub is : new ≡ counted_at n session.stage (with_change n (shut_down causes.Memory session)
      (kept_fed piece old.view.clock n (Some session) old.view.kept) old.refusals old)

-- The clock is the later of the two times, and each group and each partition had its own part of the moment, or was refused it. Where nothing
-- was counted each had it.
pub record MayPass (now : ℕ) (old new : Own) : Type 0 where
  pub is : new.view ≡ record old.view { kept = new.view.kept; clock = max old.view.clock now }
  pub passed : PassesPartly (max old.view.clock now) old.refusals new.refusals old.view.kept new.view.kept
  pub exact : IsCalm old.refusals new.refusals → new.view.kept ≡ hosted.passed (max old.view.clock now) old.view.kept

-- what an event brings, of which nothing is said yet; a connection may not be kept
abbrev pub MayBegin : Happening → Own → Own → Type 0
MayBegin (Opens n) old new = (new ≡ record old { view = step (Opens n) old.view }) ⊎ (new ≡ old)
MayBegin (Comes n piece) old new = IsIgnored n piece old new ⊎ ((new ≡ brought n piece old) ⊎ MayLose n piece old new)
MayBegin (Closes n) old new = new ≡ record old { view = step (Closes n) old.view }
MayBegin (Moment now) old new = MayPass now old new

-- an event: first what it brings, and then steps of which each says the truth
pub record MayAct (t : ℕ) (e : Happening) (old new : Own) : Type 0 where
  pub begun : Own
  pub begins : MayBegin e old begun
  pub goes : MayGo t begun new

-- Behind it no connection can take a turn, and no request that waits is ready: a look at all of them changes nothing.
pub record IsSettled (o : Own) : Type 0 where
  pub turns : first_able o.view.lines ≡ None
  pub waits : all_woken o.view ≡ o.view

-- 4. Each tenant of a broker

-- nothing of that scope is on one of these connections
abbrev pub IsApart : Scope → (ℕ → Bool) → Type 0
IsApart (Of n) mine = mine n ≡ false
IsApart Everybody mine = ⊥

-- From one moment within an event to a later one, in which connections of a scope may change: those of a tenant stay its own, what it has
-- goes on as its machine may, and stays where the scope has none of its connections.
pub record SpeaksTo (scope : Scope) (t : ℕ) (mine : ℕ → Bool) (es : List Happening) (old new : BrokerState) : Type 0 where
  pub stays : Mine t mine es new
  pub goes : MayGo t (own_of t mine old) (own_of t mine new)
  pub apart : IsApart scope mine → own_of t mine new ≡ own_of t mine old

-- to each tenant
pub record SpeaksIn (scope : Scope) (old new : BrokerState) : Type 0 where
  pub still : AreStill scope new
  pub goes : (t : ℕ) (mine : ℕ → Bool) (es : List Happening) → Mine t mine es old → SpeaksTo scope t mine es old new

-- so it is by turns, of whichever connections may take some
abbrev pub SpeaksTruth : BrokerState → BrokerState → Type 0
SpeaksTruth old new = (scope : Scope) → AreStill scope old → SpeaksIn scope old new

-- and by looks at waits of tenants that are concerned
abbrev pub SpeaksFor : Whom → BrokerState → BrokerState → Type 0
SpeaksFor whom old new =
    (scope : Scope) → ((t : ℕ) → Concerns whom t → HasTenant scope old t) → AreStill scope old → SpeaksIn scope old new

-- An event of a broker, in a run: those of a tenant stay its own, what it has is what its machine may make of the event, and an event that is
-- not its own leaves that as it was.
pub record ActsOn (t : ℕ) (mine : ℕ → Bool) (e : Happening) (es : List Happening) (old new : BrokerState) : Type 0 where
  pub stays : Mine t mine es new
  pub own : concerns mine e ≡ true → MayAct t e (own_of t mine old) (own_of t mine new)
  pub apart : concerns mine e ≡ false → own_of t mine new ≡ own_of t mine old

abbrev pub SpeaksAt : Happening → BrokerState → BrokerState → Type 0
SpeaksAt e old new = (t : ℕ) (mine : ℕ → Bool) (es : List Happening) → IsEventRun old.last (e ∷ es) → Mine t mine (e ∷ es) old
    → ActsOn t mine e es old new

-- the tenants had their own parts of a moment, and nothing was said
pub record IsTrueMoment (old new : BrokerState) : Type 0 where
  pub is : new ≡ record old { tenants = new.tenants }
  pub passed : HavePassed old.clock ⊤ old.tenants new.tenants

-- so it is once the clock is set
abbrev pub PassesAt : ℕ → BrokerState → BrokerState → Type 0
PassesAt now old new = IsTrueMoment (moved old now) new
