-- A connection's place in the broker, its turns there, and the count of a refusal.
use Rattle.std.specs.Prelude.{◌≡◌, ◌≢◌, ℕ, ℤ, ◌<◌, ◌≤◌, List, [], ◌∷◌, length, take, map, get_or, Option, Some, None, Bool, true, false}
use Rattle.std.specs.Prelude.{not, ◌||◌, ◌⊎◌, ⊤}
use Rattle.std.specs.List.{AllByRecursion}
use Rattle.std.specs.declared.alloc.Global.{Global}
use Rattle.std.specs.declared.vec.Vec.{Vec}
use Rattle.kb_tenants.specs.Tenants.{AreQuietBut, IsTruthfulFor}
use Rattle.kb_connection.specs.Fronts.{IsAsked, IsOwn}
use Rattle.kb_connection.specs.TenantAnswers.{with_answer, answered_again}
use Rattle.kb_connection.specs.View.{without_front}
use Rattle.kb_tenant_state.specs.Counts.{IsCalm, counted_once}
use Rattle.kb_tenant_state.specs.declared.topic_partition.TopicPartition.{TopicPartition}
use Rattle.kb_tenant_api.specs.Hosted as hosted
use Rattle.kb_tenant_api.specs.Hosted.{Kept, TenantState}
use Rattle.kb_tenant_api.specs.Turns.{IsTurn, IsMet}
use Rattle.kb_tenant.specs.Replies.{Silent, IsAnswer}
use Rattle.kb_tenant.specs.Told.{AnswersLook}
use Rattle.kb_tenant.specs.declared.answer.Answer.{Answer}
use Rattle.kb_tenant.specs.declared.answer.Answer.TheVariants as answers
use Rattle.kb_tenant.specs.declared.node.Node.{Node}
use Rattle.kb_tenant_api.specs.declared.answer.Answer.{Answer as AnyAnswer}
use Rattle.kb_tenant_api.specs.Acknowledged.{AreGroupsAfter}
use Rattle.kb_tenant_api.specs.Serve.{served}
use Rattle.kb_tenant_api.specs.Waiters.{AreServed}
use Rattle.kb_isolation_spec.specs.declared.shut.Shut.TheVariants as causes
use Rattle.kb_isolation_spec.specs.declared.head.Head.{Head}
use Rattle.kb_isolation_spec.specs.Stranded.{IsMembersAt, members_of}
use Rattle.kb_isolation_spec.specs.Tenant.{Awaited, Group, Records, Wait, is_members, ready}
use Rattle.kb_isolation_spec.specs.Session.{Stage, Greets, BoundTo, Session, shut_down, without_wait, is_free, can, in_front}
use Rattle.kb_isolation_spec.specs.Greeting.{Setup, greeted, for_tenant, node_of}
use Rattle.kb_isolation_spec.specs.Machine.{Line, after_turn, kept_by_turn, woken, first_able, work}
use Rattle.kb_isolation_spec.specs.Broker.{BrokerState, IsSound, IsUnready, AreUnready, AnyWait, refusals_of}
use Rattle.kb_isolation_spec.specs.Calls.{IsRefusedUnbound}
use Rattle.kb_isolation_spec.specs.declared.whom.Whom.{Whom}
use Rattle.kb_isolation_spec.specs.Turned.{Scope, AreStill, IsGoing, SameOthers, Turned, Served, Waked, IsLookedFor, IsPassedOver}

-- the numbers of the open connections, in order
abbrev pub numbers : BrokerState → List ℕ
numbers b = map (λ (l : Line). l.number) b.lines

-- the number of the connection at a place
abbrev pub number_at : ℕ → BrokerState → ℕ
number_at i b = get_or (numbers b) i 0

-- whether a connection waits
abbrev pub waits_in : Option Session → Bool
waits_in None = false
waits_in (Some s) = not (is_free s.stage)

-- whether some connection does
abbrev pub any_waits : List Line → Bool
any_waits [] = false
any_waits (l ∷ ls) = waits_in (Some l.session) || any_waits ls

-- a connection at that stage waits for nothing that is looked for
abbrev pub IsPassed : Whom → ℕ → Stage → Type 0
IsPassed whom clock (Greets handshaken) = ⊤
IsPassed whom clock (BoundTo tenant None) = ⊤
IsPassed whom clock (BoundTo tenant (Some wait)) = IsPassedOver whom clock tenant wait

abbrev pub ArePassed : Whom → BrokerState → Type 0
ArePassed whom b = AllByRecursion (λ (l : Line). IsPassed whom b.clock l.session.stage) b.lines

-- after the tenants' own parts of a moment, but for what is due, only requests on those connections may be ready; where it is not known
-- on which, any
abbrev pub LeavesQuietBut : Option (Vec ℕ Global) → List TenantState → List TenantState → Type 0
LeavesQuietBut None old new = ⊤
LeavesQuietBut (Some ns) old new = AreQuietBut ns.items old new

-- no connection but that one can take a turn
abbrev pub AreIdle : ℕ → BrokerState → Type 0
AreIdle n b = AllByRecursion (λ (l : Line). l.number ≢ n → can l.session ≡ false) b.lines

-- only connections of some event can take a turn
abbrev pub IsScoped : BrokerState → Type 0
IsScoped b = (scope : Scope) × AreStill scope b

-- the least-numbered connection that can take a turn is at that place
pub record IsNext (i : ℕ) (b : BrokerState) : Type 0 where
  pub sound : IsSound b
  pub within : i < length b.lines
  pub first : (d : Line) → first_able b.lines ≡ Some (get_or b.lines i d)

-- what the turn of a connection at that stage leaves of the tenants, also where it is refused
abbrev pub IsTurnAt : Type 0 → Stage → List TenantState → List TenantState → Type 0
IsTurnAt honest (Greets handshaken) old new = new ≡ old
IsTurnAt honest (BoundTo tenant wait) old new = IsTurn tenant honest old new

-- the turn of a connection of number n at that stage that was not refused: of its session s it leaves r
abbrev pub IsTakenAt : Type 0 → Setup → ℕ → ℕ → Stage → List TenantState → List TenantState → Session → Session → Type 0
IsTakenAt honest setup clock n (Greets handshaken) old new s r = r ≡ greeted setup handshaken s
IsTakenAt honest setup clock n (BoundTo tenant wait) old new s r =
    IsMet tenant honest old new (λ k l. (r ≡ after_turn (for_tenant setup tenant) k clock n s)
    × (l ≡ kept_by_turn (for_tenant setup tenant) k clock n (in_front s)))

-- The turn of a connection of number n at that stage, also where it is refused, leaves no member more waiting but on that connection,
-- and of those who waited each waits still or was answered; or it leaves the tenant's groups as they were.
abbrev pub IsWaitTurnAt : ℕ → Stage → List TenantState → List TenantState → Type 0
IsWaitTurnAt n (Greets handshaken) old new = ⊤
IsWaitTurnAt n (BoundTo tenant wait) old new =
    AreServed n true (hosted.kept_of old tenant).groups (hosted.kept_of new tenant).groups
    ⊎ ((hosted.kept_of new tenant).groups ≡ (hosted.kept_of old tenant).groups)

-- where the turn was not refused, a member more waits on the connection only if it waits for its group; r is its stage then
abbrev pub IsMemberTurnAt : ℕ → Stage → List TenantState → List TenantState → Stage → Type 0
IsMemberTurnAt n (Greets handshaken) old new r = ⊤
IsMemberTurnAt n (BoundTo tenant wait) old new r = IsMembersAt tenant r ⊎ (members_of new tenant n ≤ members_of old tenant n)

-- what a turn leaves of a session s in any case: fewer unread bytes, the same limit of a request, and a bound connection stays bound
pub record IsSpent (s r : Session) : Type 0 where
  pub less : length r.unread < length s.unread
  pub limit : r.limit ≡ s.limit
  pub stage : (tenant : ℕ) (wait : Option Wait) → s.stage ≡ BoundTo tenant wait → without_wait r.stage ≡ without_wait s.stage

-- one refusal more was counted for a tenant, short of the end of its count; a member of its groups that waited on the connection
-- of number n waits no longer; and nothing else has changed
pub record IsCountedFor (t n : ℕ) (old new : BrokerState) : Type 0 where
  pub is : new ≡ record old { tenants = new.tenants }
  pub turn : IsTurn t (Unit {0}) old.tenants new.tenants
  pub left : hosted.kept_of new.tenants t ≡ hosted.left old.clock n (hosted.kept_of old.tenants t)
  pub once : refusals_of new t ≡ counted_once (refusals_of old t)

-- a refusal, for which the connection of number n is shut, was counted for the tenant that it is bound to, or for none where it still
-- greets
abbrev pub IsCountedAt : ℕ → Stage → BrokerState → BrokerState → Type 0
IsCountedAt n (Greets handshaken) old new = IsRefusedUnbound old new
IsCountedAt n (BoundTo tenant wait) old new = IsCountedFor tenant n old new

-- the turn of a connection at that stage, before its tenant's waiting requests are looked at again
abbrev pub IsServedAt : Stage → Scope → BrokerState → BrokerState → Type 0
IsServedAt (Greets handshaken) scope old new = Turned scope old new
IsServedAt (BoundTo tenant wait) scope old new = Served tenant scope old new

-- an answer to a fetch in whose look something was refused to its tenant: a reply that says so
pub record IsRefusedReply (t : ℕ) (old new : List TenantState) (w : Wait) (a : Answer) : Type 0 where
  pub refused : IsCalm (hosted.refusals_of old t) (hosted.refusals_of new t) → ⊥
  pub fetch : is_members w.awaited ≡ false
  pub bytes : Vec ℕ Global
  pub reply : a ≡ answers.Reply bytes

-- The answer to a fetch that waits has of each partition what is defined, or the code of what refused it; of a member's that says nothing.
abbrev pub TellsAwaited : Type 0 → ℤ → ℕ → Kept → Awaited → Answer → Type 0
TellsAwaited failed id clock kept (Records version body deadline limit) a =
    AnswersLook failed id version limit kept.world clock deadline body a
TellsAwaited failed id clock kept Group a = ⊤

-- what the request that waits on the connection of number n is answered: what it is told; or its connection is shut, and a member
-- of a group was told something; or a refused fetch has its reply
abbrev pub IsLookAnswer : ℕ → ℕ → ℕ → List TenantState → List TenantState → Wait → Answer → Type 0
IsLookAnswer t clock n old new w a =
    let told = ready (hosted.kept_of old t) clock n w in
    IsAnswer w.head.correlation_id told a
    ⊎ (((a ≡ answers.Shut) × (is_members w.awaited ≡ true → told ≡ Silent → ⊥)) ⊎ IsRefusedReply t old new w a)

-- a member that waits on the connection l waits on, or was answered by its group
abbrev pub IsAnsweredMember : List TenantState → ℕ → ℕ → Wait → Line → Line → Type 0
IsAnsweredMember old clock t w l m =
    is_members w.awaited ≡ true → (m.session.stage ≡ l.session.stage) ⊎ (ready (hosted.kept_of old t) clock l.number w ≡ Silent → ⊥)

-- a look at what waits of that tenant left this of the connection l and of the tenants; unless the store lied what they keep stays, and
-- it waits no longer, or is not ready
pub record IsLooked (honest : Type 0) (t clock : ℕ) (old new : List TenantState) (l m : Line) : Type 0 where
  pub number : m.number ≡ l.number
  pub stage : without_wait m.session.stage ≡ without_wait l.session.stage
  pub unread : length m.session.unread ≤ length l.session.unread
  pub limit : m.session.limit ≡ l.session.limit
  pub turn : IsTurn t honest old new
  pub stays : honest → (u : ℕ) → hosted.kept_of new u ≡ hosted.kept_of old u
  pub meets : IsMet t honest old new (λ k n. m.session ≡ woken k clock l.number l.session)
  pub unready : honest → (b : BrokerState) → b.tenants ≡ old → b.clock ≡ clock → IsUnready AnyWait b l.number m.session.stage
  pub member : honest → (w : Wait) → l.session.stage ≡ BoundTo t (Some w) → IsAnsweredMember old clock t w l m

-- nothing was looked at
abbrev pub IsPassedBy : List TenantState → List TenantState → Line → Line → Type 0
IsPassedBy old new l m = (new ≡ old) × (m ≡ l)

-- a connection at that stage was looked at, if it waits for what is looked for
abbrev pub IsLookedAt : Type 0 → Whom → ℕ → Stage → List TenantState → List TenantState → Line → Line → Type 0
IsLookedAt honest whom clock (Greets handshaken) old new l m = IsPassedBy old new l m
IsLookedAt honest whom clock (BoundTo t None) old new l m = IsPassedBy old new l m
IsLookedAt honest whom clock (BoundTo t (Some w)) old new l m =
    (IsPassedOver whom clock t w × IsPassedBy old new l m) ⊎ (IsLookedFor whom clock t w × IsLooked honest t clock old new l m)

-- the connections before a place were looked at, and those behind it are as they were
pub record AreWaked (whom : Whom) (old new : BrokerState) (i : ℕ) : Type 0 where
  pub waked : Waked whom old new
  pub looked : AllByRecursion (λ (l : Line). IsUnready (IsLookedFor whom old.clock) new l.number l.session.stage) (take i new.lines)
  pub rest : AreUnready (IsPassedOver whom old.clock) old
      → AllByRecursion (λ (l : Line). IsUnready AnyWait new l.number l.session.stage) (take i new.lines)
  pub over : AreUnready (IsPassedOver whom old.clock) old → AreUnready (IsPassedOver whom old.clock) new

-- what one look more leaves of the broker whatever the store says
pub record IsOneMore (i : ℕ) (old new : BrokerState) : Type 0 where
  pub going : IsGoing old new
  pub work : work new.lines ≤ work old.lines
  pub others : SameOthers (number_at i old) old new

-- a connection that had s has what is defined, or was shut
abbrev pub IsDoneOrShut : Session → Session → Session → Type 0
IsDoneOrShut defined s r = (r ≡ defined) ⊎ (r ≡ shut_down causes.Memory s)

-- The request of that head, which stood in front of a connection, was answered so: it is gone, what was answered stands behind the output,
-- and the connection waits where the answer says so; or the connection was shut.
abbrev pub IsPutOut : Head → AnyAnswer → Session → Session → Type 0
IsPutOut head answer s r = IsDoneOrShut (with_answer head answer (without_front s)) s r

-- The answer to a request of a tenant, which had kept k and keeps l, is the truth of its topics; and its groups are those that the request
-- makes, or those of before without the last replies, and then the connection is shut. Where groups are deleted some of these may be gone.
pub record IsTrueAnswer (failed full : Type 0) (node : Node) (clock n : ℕ) (key version id : ℤ) (body : List ℕ) (k l : Kept)
    (touched : List TopicPartition) (answer : AnyAnswer) : Type 0 where
  pub truthful : IsTruthfulFor failed full node clock n key version id body k l touched answer
  pub groups : AreGroupsAfter key k.groups (served node k.world clock k.groups n key version body).groups answer l.groups

-- The request of a tenant, which had kept k and keeps l, was answered the truth: that was put out behind what s had, which left r.
pub record IsToldTruth (failed full : Type 0) (node : Node) (clock n : ℕ) (key version : ℤ) (head : Head) (body : List ℕ) (k l : Kept)
    (s r : Session) : Type 0 where
  pub answer : AnyAnswer
  pub touched : List TopicPartition
  pub is_true : IsTrueAnswer failed full node clock n key version head.correlation_id body k l touched answer
  pub put_out : IsPutOut head answer s r

-- nothing was asked, as memory to read the request was refused: the tenant keeps what it kept, and the connection was shut
abbrev pub IsUnasked : Kept → Kept → Session → Session → Type 0
IsUnasked k l s r = (l ≡ k) × (r ≡ shut_down causes.Memory s)

-- The turn of a bound connection, whatever was refused in it: the tenant's request in front of it is told the truth; any other is the
-- connection's own matter, and comes to what is defined, or shuts it, and what the tenant keeps stays.
pub record IsToldBound (failed full : Type 0) (setup : Setup) (t clock n : ℕ) (k l : Kept) (s r : Session) : Type 0 where
  pub asked : (key version : ℤ) (head : Head) (body : List ℕ) → IsAsked setup s key version head body
      → IsToldTruth failed full (node_of setup t) clock n key version head body k l s r ⊎ IsUnasked k l s r
  pub own : IsOwn setup s → IsDoneOrShut (after_turn (for_tenant setup t) k clock n s) s r
  pub stays : IsOwn setup s → l ≡ k

-- so it is of the turn of a connection at that stage: one that greets comes to what is defined, or is shut
abbrev pub IsToldAt : Type 0 → (ℕ → Type 0) → Setup → ℕ → ℕ → Stage → List TenantState → List TenantState → Session → Session → Type 0
IsToldAt failed full setup clock n (Greets handshaken) old new s r = IsDoneOrShut (greeted setup handshaken s) s r
IsToldAt failed full setup clock n (BoundTo tenant wait) old new s r =
    IsToldBound failed (full tenant) setup tenant clock n (hosted.kept_of old tenant) (hosted.kept_of new tenant) s r

-- The answer to a member that waits for its group on the connection of number n is what the group told it, or the connection is shut.
abbrev pub TellsMember : ℕ → ℕ → Kept → Wait → Answer → Type 0
TellsMember clock n kept w a = is_members w.awaited ≡ true → IsAnswer w.head.correlation_id (ready kept clock n w) a ⊎ (a ≡ answers.Shut)

-- A look at what waits on the connection of number n, whatever was refused in it: it waits on; or what it was answered has of each partition
-- what is defined, or the code of what refused it, and a member is told what its group told it.
abbrev pub HearsOf : Type 0 → ℕ → ℕ → Kept → Wait → Session → Session → Type 0
HearsOf failed clock n kept w s r = (r ≡ s) ⊎ ((answer : Answer)
    × (TellsAwaited failed w.head.correlation_id clock kept w.awaited answer
    × (TellsMember clock n kept w answer × IsDoneOrShut (answered_again w.head answer s) s r)))

-- so it is of a connection at that stage
abbrev pub IsToldAgain : Type 0 → ℕ → ℕ → Stage → List TenantState → Session → Session → Type 0
IsToldAgain failed clock n (Greets handshaken) old s r = r ≡ s
IsToldAgain failed clock n (BoundTo tenant None) old s r = r ≡ s
IsToldAgain failed clock n (BoundTo tenant (Some w)) old s r = HearsOf failed clock n (hosted.kept_of old tenant) w s r
