-- The queue of the connections that wait, beside the broker: what stands in it, and what it is good for.
use Rattle.std.specs.Prelude.{◌≡◌, ◌≢◌, ◌↔◌, ℕ, List, map, Option, Some, None, option_map, [], ◌∷◌, ◌++◌, Bool, true, false, Contains}
use Rattle.std.specs.Prelude.{IsSomeAnd, ◌⊎◌, ⊤}
use Rattle.std.specs.FinMap.{get}
use Rattle.std.specs.declared.alloc.Global.{Global}
use Rattle.std.specs.declared.vec.Vec.{Vec}
use Rattle.kb_waits.specs.Queue as queue
use Rattle.kb_waits.specs.Queue.{Queue, AreParked}
use Rattle.kb_waits.specs.declared.key.WaitKey.{WaitKey}
use Rattle.kb_waits.specs.declared.key.WaitKey.TheVariants as keys
use Rattle.kb_tenant_state.specs.declared.topic_partition.TopicPartition.{TopicPartition}
use Rattle.kb_tenant_api.specs.Hosted as hosted
use Rattle.kb_tenant_api.specs.Hosted.{TenantState}
use Rattle.kb_tenant_api.specs.Serve.{has_released}
use Rattle.kb_tenant.specs.Replies.{Silent}
use Rattle.kb_tenant.specs.Waiting.{AreApart}
use Rattle.kb_tenants.specs.Tenants.{answered_connections}
use Rattle.kb_tenant_state.specs.Counts.{IsCalm}
use Rattle.kb_tenant.specs.declared.answer.Answer.TheVariants as plain
use Rattle.kb_tenant_api.specs.declared.answer.Answer.{Answer}
use Rattle.kb_tenant_api.specs.declared.answer.Answer.TheVariants as answers
use Rattle.kb_isolation_spec.specs.Tenant.{Awaited, Records, Group, Wait, ready, asked}
use Rattle.kb_isolation_spec.specs.Session.{Stage, Greets, BoundTo, Session, can, is_free, in_front}
use Rattle.kb_isolation_spec.specs.Greeting.{Setup, for_tenant}
use Rattle.kb_isolation_spec.specs.Machine.{Line, after_turn, kept_by_turn}
use Rattle.kb_isolation_spec.specs.Owners.{whose}
use Rattle.kb_isolation_spec.specs.Machine.{find_line}
use Rattle.kb_isolation_spec.specs.Broker.{BrokerState, IsUnready, AnyWait}
use Rattle.kb_isolation_spec.specs.declared.whom.Whom.{Whom}
use Rattle.kb_isolation_spec.specs.declared.whom.Whom.TheVariants as whoms
use Rattle.kb_isolation_spec.specs.Turned.{Scope, SameOthers, Turned, Served, Waked, IsLookedFor, IsPassedOver}
use Rattle.std.specs.List.{AllByRecursion}
use Rattle.kb_broker.specs.declared.serving.Concerned.{Concerned}
use Rattle.kb_broker.specs.declared.serving.Concerned.TheVariants as concerned
use Rattle.kb_broker.specs.declared.serving.Touched.{Touched}
use Rattle.kb_broker.specs.declared.serving.Touched.TheVariants as touches

-- 1. The queue

-- the key of a tenant's partition
abbrev pub key_of : ℕ → TopicPartition → WaitKey
key_of t place = keys.Partition t place.instance place.number

abbrev pub keys_of : ℕ → List TopicPartition → List WaitKey
keys_of t places = map (key_of t) places

-- the key of all that a tenant's connections wait for
abbrev pub tenant_key : ℕ → WaitKey
tenant_key t = keys.Tenant t

-- under what a connection of a tenant stands that waits for those partitions
abbrev pub keys_for : ℕ → List TopicPartition → List WaitKey
keys_for t places = tenant_key t ∷ keys_of t places

-- until when a request waits: a fetch until its deadline, one that waits for its group until the end of time
abbrev pub until : Awaited → ℕ
until (Records version body deadline limit) = deadline
until Group = 18446744073709551615

-- until when a connection at that stage waits, where it does
abbrev pub deadline_at : Stage → Option ℕ
deadline_at (Greets handshaken) = None
deadline_at (BoundTo tenant None) = None
deadline_at (BoundTo tenant (Some wait)) = Some (until wait.awaited)

abbrev pub deadline_in : Option Session → Option ℕ
deadline_in None = None
deadline_in (Some s) = deadline_at s.stage

abbrev pub until_of : Option queue.Wait → Option ℕ
until_of o = option_map (λ (w : queue.Wait). w.deadline) o

abbrev pub wait_keys_of : Option queue.Wait → Option (List WaitKey)
wait_keys_of o = option_map (λ (w : queue.Wait). w.keys) o

-- as long as nothing was refused to its tenant, the connection of number n that waits at that stage for what is not ready stands under
-- its tenant and exactly the partitions that its request asks
abbrev pub IsKeyedAt : List TenantState → ℕ → Stage → Option queue.Wait → Type 0
IsKeyedAt ts n (Greets handshaken) o = ⊤
IsKeyedAt ts n (BoundTo t None) o = ⊤
IsKeyedAt ts n (BoundTo t (Some w)) o = hosted.refusals_of ts t ≡ 0 → ready (hosted.kept_of ts t) 0 n w ≡ Silent
    → wait_keys_of o ≡ Some (keys_for t (asked (hosted.kept_of ts t) w))

abbrev pub IsKeyedIn : List TenantState → ℕ → Option Session → Option queue.Wait → Type 0
IsKeyedIn ts n None o = ⊤
IsKeyedIn ts n (Some s) o = IsKeyedAt ts n s.stage o

-- whatever was refused, a connection that waits at that stage stands under its tenant
abbrev pub IsUnderTenant : ℕ → Option queue.Wait → Type 0
IsUnderTenant t o = IsSomeAnd o (queue.IsUnder (tenant_key t))

abbrev pub IsOwnedAt : Stage → Option queue.Wait → Type 0
IsOwnedAt (Greets handshaken) o = ⊤
IsOwnedAt (BoundTo t None) o = ⊤
IsOwnedAt (BoundTo t (Some w)) o = IsUnderTenant t o

abbrev pub IsOwnedIn : Option Session → Option queue.Wait → Type 0
IsOwnedIn None o = ⊤
IsOwnedIn (Some s) o = IsOwnedAt s.stage o

-- the queue holds exactly the connections that wait, each until its deadline, under its tenant, and, unless the store lied, under
-- what its request asks
pub record IsQueueOf (honest : Type 0) (q : Queue) (ts : List TenantState) (lines : List Line) : Type 0 where
  pub dated : (n : ℕ) → until_of (get q n) ≡ deadline_in (find_line n lines)
  pub owned : (n : ℕ) → IsOwnedIn (find_line n lines) (get q n)
  pub keyed : honest → (n : ℕ) → IsKeyedIn ts n (find_line n lines) (get q n)

-- 2. A turn

-- what a tenant's answer puts into the queue
abbrev pub parked_for : ℕ → Answer → Option queue.Wait
parked_for t (answers.Plain (plain.Reply reply)) = None
parked_for t (answers.Plain (plain.Wait deadline limit places)) = Some (record { deadline = deadline; keys = keys_for t places.items })
parked_for t (answers.Plain plain.NoReply) = None
parked_for t (answers.Plain plain.Shut) = None
parked_for t answers.Rebalance = Some (record { deadline = until Group; keys = keys_for t [] })

-- a request of the tenant that waits and is not ready before nor after asks for the same partitions
abbrev pub AreAskedStill : ℕ → List TenantState → List TenantState → Type 0
AreAskedStill t old new = (n : ℕ) (w : Wait) → ready (hosted.kept_of old t) 0 n w ≡ Silent → ready (hosted.kept_of new t) 0 n w ≡ Silent
    → asked (hosted.kept_of new t) w ≡ asked (hosted.kept_of old t) w

-- where nothing was ever refused to the tenant
abbrev pub IsAskedOn : ℕ → List TenantState → List TenantState → Type 0
IsAskedOn t old new = hosted.refusals_of new t ≡ 0 → AreAskedStill t old new

abbrev pub IsAskedOnAt : Stage → List TenantState → List TenantState → Type 0
IsAskedOnAt (Greets handshaken) old new = ⊤
IsAskedOnAt (BoundTo t wait) old new = IsAskedOn t old new

-- after the turn of a connection with that number and session s, which is r then, of a tenant to which nothing was ever refused:
-- what waits and was not ready is not ready, if the queue has it under what it asks and its connection is not among those
pub record IsPassedOn (setup : Setup) (t clock n : ℕ) (q : Queue) (old new : List TenantState) (s r : Session) (ns : List ℕ) : Type 0 where
  pub session : r ≡ after_turn (for_tenant setup t) (hosted.kept_of old t) clock n s
  pub kept : hosted.kept_of new t ≡ kept_by_turn (for_tenant setup t) (hosted.kept_of old t) clock n (in_front s)
  pub calm : hosted.refusals_of new t ≡ 0
  pub own : Contains ns n
  pub others : (k : ℕ) (w : Wait) → k ≢ n → (Contains ns k → ⊥) → wait_keys_of (get q k) ≡ Some (keys_for t (asked (hosted.kept_of old t) w))
      → ready (hosted.kept_of old t) clock k w ≡ Silent → ready (hosted.kept_of new t) clock k w ≡ Silent

-- the connection of that number is among those, and all others that stand in the queue under the tenant
pub record AreAllOf (t n : ℕ) (q : Queue) (ns : List ℕ) : Type 0 where
  pub own : Contains ns n
  pub others : (k : ℕ) → k ≢ n → IsUnderTenant t (get q k) → Contains ns k

-- the connection of that number is among those, and nothing that waits elsewhere and was not ready is ready
pub record AreAnswered (t clock n : ℕ) (old new : List TenantState) (ns : List ℕ) : Type 0 where
  pub own : Contains ns n
  pub others : (k : ℕ) (w : Wait) → k ≢ n → (Contains ns k → ⊥) → ready (hosted.kept_of old t) clock k w ≡ Silent
      → ready (hosted.kept_of new t) clock k w ≡ Silent

-- nothing was refused to a tenant, its groups answer nobody who waited, and what waits and was not ready is not ready, if it asks none
-- of those partitions
pub record IsTouched (t clock : ℕ) (old new : List TenantState) (places : List TopicPartition) : Type 0 where
  pub calm : IsCalm (hosted.refusals_of old t) (hosted.refusals_of new t)
  pub none : has_released (hosted.kept_of new t).groups ≡ false
  pub ready : (k : ℕ) (w : Wait) → AreApart (asked (hosted.kept_of old t) w) places → ready (hosted.kept_of old t) clock k w ≡ Silent
      → ready (hosted.kept_of new t) clock k w ≡ Silent

-- nothing was refused to a tenant, and what waits and was not ready is not ready, if its groups do not answer it
pub record IsReleased (t clock : ℕ) (old new : List TenantState) : Type 0 where
  pub calm : IsCalm (hosted.refusals_of old t) (hosted.refusals_of new t)
  pub ready : (k : ℕ) (w : Wait) → (Contains (answered_connections (hosted.kept_of new t).groups) k → ⊥)
      → ready (hosted.kept_of old t) clock k w ≡ Silent → ready (hosted.kept_of new t) clock k w ≡ Silent

-- what a request of a tenant touched, where that is known
abbrev pub IsTouchedBy : Touched → ℕ → ℕ → List TenantState → List TenantState → Type 0
IsTouchedBy (touches.Partitions places) t clock old new = IsTouched t clock old new places.items
IsTouchedBy touches.Groups t clock old new = IsReleased t clock old new
IsTouchedBy touches.Unknown t clock old new = ⊤

-- the turn of a connection of number n bound to that tenant, of whose session s it leaves r, was not refused; the connection waits for
-- nothing then, or the groups answer nobody who waited; and what waits and was not ready is not ready, if it asks none of those partitions
pub record IsTouchedTurn (setup : Setup) (t clock n : ℕ) (old new : List TenantState) (s r : Session)
    (places : List TopicPartition) : Type 0 where
  pub session : r ≡ after_turn (for_tenant setup t) (hosted.kept_of old t) clock n s
  pub kept : hosted.kept_of new t ≡ kept_by_turn (for_tenant setup t) (hosted.kept_of old t) clock n (in_front s)
  pub own : (has_released (hosted.kept_of new t).groups ≡ false) ⊎ (is_free r.stage ≡ true)
  pub ready : (k : ℕ) (w : Wait) → AreApart (asked (hosted.kept_of old t) w) places → ready (hosted.kept_of old t) clock k w ≡ Silent
      → ready (hosted.kept_of new t) clock k w ≡ Silent

-- what such a turn touched, where that is known
abbrev pub IsTouchedTurnBy : Touched → Setup → ℕ → ℕ → ℕ → List TenantState → List TenantState → Session → Session → Type 0
IsTouchedTurnBy (touches.Partitions places) setup t clock n old new s r = IsTouchedTurn setup t clock n old new s r places.items
IsTouchedTurnBy touches.Groups setup t clock n old new s r = IsReleased t clock old new
IsTouchedTurnBy touches.Unknown setup t clock n old new s r = ⊤

-- those connections are the one of that number, and all that stand in the queue under one of those partitions
pub record AreUnder (t n : ℕ) (ts : List TenantState) (q : Queue) (places : List TopicPartition) (ns : List ℕ) : Type 0 where
  pub calm : hosted.refusals_of ts t ≡ 0
  pub own : Contains ns n
  pub under : (k : ℕ) (place : TopicPartition) → Contains places place → IsSomeAnd (get q k) (queue.IsUnder (key_of t place))
      → Contains ns k

-- those connections are exactly the one of that number, and all that stand in the queue under the tenant
abbrev pub AreTheTenants : ℕ → ℕ → Queue → List ℕ → Type 0
AreTheTenants t n q ns = (k : ℕ) → Contains ns k ↔ (IsUnderTenant t (get q k) ⊎ (n ≡ k))

-- those connections are exactly those that stand in the queue under one of those partitions, where nothing was ever refused to the
-- tenant; or those that stand there under the tenant
abbrev pub AreWaitingFor : ℕ → List TenantState → Queue → List TopicPartition → List ℕ → Type 0
AreWaitingFor t ts q places ns =
    ((hosted.refusals_of ts t ≡ 0) × AreParked q (queue.IsUnderAny (keys_of t places)) ns) ⊎ AreParked q (queue.IsUnder (tenant_key t)) ns

-- whose waits a turn of a tenant concerns: those for the partitions that it touched, or exactly those that the tenant's groups answered;
-- where that is not known, or what the waits ask, all of the tenant's
abbrev pub AreConcerned : ℕ → ℕ → List TenantState → Queue → Touched → List ℕ → Type 0
AreConcerned t n ts q (touches.Partitions places) ns = AreUnder t n ts q places.items ns ⊎ AreTheTenants t n q ns
AreConcerned t n ts q touches.Groups ns = ns ≡ answered_connections (hosted.kept_of ts t).groups ++ n ∷ []
AreConcerned t n ts q touches.Unknown ns = AreTheTenants t n q ns

-- or nobody's, where nobody waits for those partitions
abbrev pub IsConcern : Concerned → ℕ → ℕ → List TenantState → Queue → Touched → Type 0
IsConcern concerned.Nobody t n ts q (touches.Partitions places) = (places.items ≡ []) ⊎ AreWaitingFor t ts q places.items []
IsConcern concerned.Nobody t n ts q touches.Groups = ⊥
IsConcern concerned.Nobody t n ts q touches.Unknown = ⊥
IsConcern (concerned.These u ns) t n ts q touched = (u ≡ t) × AreConcerned t n ts q touched ns.items
IsConcern (concerned.All u) t n ts q touched = u ≡ t

-- where it is not known whose waits a turn of a tenant concerns, that was counted for the tenant; else the tenants are as they were
abbrev pub IsKnownOrCounted : Concerned → ℕ → List TenantState → List TenantState → Type 0
IsKnownOrCounted concerned.Nobody t old new = new ≡ old
IsKnownOrCounted (concerned.These u ns) t old new = new ≡ old
IsKnownOrCounted (concerned.All u) t old new = IsCalm (hosted.refusals_of old t) (hosted.refusals_of new t) → ⊥

-- whose waits a turn at that stage concerns
abbrev pub IsWhose : Concerned → Stage → Type 0
IsWhose concerned.Nobody st = ⊤
IsWhose (concerned.These t ns) st = whose st ≡ Some t
IsWhose (concerned.All t) st = whose st ≡ Some t

-- a turn leaves nothing ready but what the connections with that number and with those wait for, which may be all of the tenant's
abbrev pub IsLeftAmong : Setup → ℕ → ℕ → ℕ → Queue → List TenantState → List TenantState → Session → Session → List ℕ → Type 0
IsLeftAmong setup t clock n q old new s r ns =
    IsPassedOn setup t clock n q old new s r ns ⊎ (AreAllOf t n q ns ⊎ AreAnswered t clock n old new ns)

-- the turn of a connection of number n bound to that tenant, of whose session s it leaves r, was not refused, the connection waits for
-- nothing then, or the groups answer nobody who waited, and what waits elsewhere and was not ready is not ready
pub record IsQuietTurn (setup : Setup) (t clock n : ℕ) (q : Queue) (old new : List TenantState) (s r : Session) : Type 0 where
  pub session : r ≡ after_turn (for_tenant setup t) (hosted.kept_of old t) clock n s
  pub kept : hosted.kept_of new t ≡ kept_by_turn (for_tenant setup t) (hosted.kept_of old t) clock n (in_front s)
  pub own : (has_released (hosted.kept_of new t).groups ≡ false) ⊎ (is_free r.stage ≡ true)
  pub others : IsLeftAmong setup t clock n q old new s r (n ∷ [])

-- the same at any stage: a greeting one changes nothing that a tenant keeps
abbrev pub IsQuietAt : Setup → ℕ → ℕ → Stage → Queue → List TenantState → List TenantState → Session → Session → Type 0
IsQuietAt setup clock n (Greets handshaken) q old new s r = ⊤
IsQuietAt setup clock n (BoundTo tenant wait) q old new s r = IsQuietTurn setup tenant clock n q old new s r

-- what a turn leaves ready: nothing, or nothing but what those connections wait for
abbrev pub IsLeftBy : Concerned → Setup → ℕ → Stage → ℕ → Queue → List TenantState → List TenantState → Session → Session → Type 0
IsLeftBy concerned.Nobody setup clock st n q old new s r = IsQuietAt setup clock n st q old new s r
IsLeftBy (concerned.These t ns) setup clock st n q old new s r = IsLeftAmong setup t clock n q old new s r ns.items
IsLeftBy (concerned.All t) setup clock st n q old new s r = ⊤

-- 3. Looks by number

-- a connection of that number waits for nothing that is ready
abbrev pub IsUnreadyIn : BrokerState → ℕ → Option Session → Type 0
IsUnreadyIn b k None = ⊤
IsUnreadyIn b k (Some s) = IsUnready AnyWait b k s.stage

abbrev pub IsUnreadyAt : ℕ → BrokerState → Type 0
IsUnreadyAt k b = IsUnreadyIn b k (find_line k b.lines)

-- what a connection waits for is looked for, if it waits
abbrev pub IsSoughtAt : Whom → ℕ → Stage → Type 0
IsSoughtAt whom clock (Greets handshaken) = ⊤
IsSoughtAt whom clock (BoundTo t None) = ⊤
IsSoughtAt whom clock (BoundTo t (Some w)) = IsLookedFor whom clock t w

abbrev pub IsSoughtIn : Whom → ℕ → Option Session → Type 0
IsSoughtIn whom clock None = ⊤
IsSoughtIn whom clock (Some s) = IsSoughtAt whom clock s.stage

-- those connections are looked at in a moment: those whose deadline has come and those that were answered, where it is known on which
-- requests were answered, or all that wait
abbrev pub AreSought : Queue → Option (Vec ℕ Global) → ℕ → List ℕ → Type 0
AreSought q None clock ns = AreParked q queue.IsAny ns
AreSought q (Some answered_connections) clock ns =
    (k : ℕ) → Contains ns k ↔ (IsSomeAnd (get q k) (queue.IsDue clock) ⊎ Contains answered_connections.items k)

-- what waits is ready only where it is due or on those connections; where it is not known on which, any may be
abbrev pub IsReadyAmong : Option (Vec ℕ Global) → BrokerState → Type 0
IsReadyAmong None b = ⊤
IsReadyAmong (Some ns) b = AllByRecursion (λ (l : Line).
    Contains ns.items l.number ⊎ IsUnready (IsPassedOver whoms.Due b.clock) b l.number l.session.stage) b.lines

-- a connection waits for nothing that is ready, or is among those that are looked at
abbrev pub IsMinded : Whom → List ℕ → BrokerState → ℕ → Type 0
IsMinded whom ns b k = IsUnreadyAt k b ⊎ (Contains ns k × IsSoughtIn whom b.clock (find_line k b.lines))

-- the connections of those numbers were looked at, and the others are as they were
pub record AreMinded (whom : Whom) (old new : BrokerState) (ns : List ℕ) : Type 0 where
  pub waked : Waked whom old new
  pub rest : (k : ℕ) → IsUnreadyAt k old → IsUnreadyAt k new
  pub done : (k : ℕ) → Contains ns k → IsSoughtIn whom old.clock (find_line k old.lines) → IsUnreadyAt k new
  pub todo : (k : ℕ) → IsUnreadyAt k new ⊎ (find_line k new.lines ≡ find_line k old.lines)

-- no connection but those has changed
abbrev pub SameBut : List ℕ → BrokerState → BrokerState → Type 0
SameBut ns old new = (k : ℕ) → (Contains ns k → ⊥) → find_line k new.lines ≡ find_line k old.lines

-- after the turn of the connection of that number, and looks, no other has changed but those that are concerned
abbrev pub IsConfined : Concerned → ℕ → BrokerState → BrokerState → Type 0
IsConfined concerned.Nobody n old new = SameOthers n old new
IsConfined (concerned.These t ns) n old new = Contains ns.items n × SameBut ns.items old new
IsConfined (concerned.All t) n old new = ⊤

-- a turn after which nobody's waiting requests have to be looked at again, or before those of a tenant are
abbrev pub IsServedFor : Concerned → Scope → BrokerState → BrokerState → Type 0
IsServedFor concerned.Nobody scope old new = Turned scope old new
IsServedFor (concerned.These t ns) scope old new = Served t scope old new
IsServedFor (concerned.All t) scope old new = Served t scope old new

-- the connection that took the turn is among those that are concerned
abbrev pub IsOwnTo : Concerned → ℕ → Type 0
IsOwnTo concerned.Nobody n = ⊤
IsOwnTo (concerned.These t ns) n = Contains ns.items n
IsOwnTo (concerned.All t) n = ⊤

-- all of the tenant's that a connection at that stage is bound to
abbrev pub IsAllOf : Concerned → Stage → Type 0
IsAllOf concerned.Nobody st = whose st ≡ None
IsAllOf (concerned.These t ns) st = ⊥
IsAllOf (concerned.All t) st = whose st ≡ Some t

-- what waits on the connection of number n would do so at the first moment too
abbrev pub IsWaitingOnAt : List TenantState → ℕ → Stage → Type 0
IsWaitingOnAt ts n (Greets handshaken) = ⊤
IsWaitingOnAt ts n (BoundTo t None) = ⊤
IsWaitingOnAt ts n (BoundTo t (Some w)) = ready (hosted.kept_of ts t) 0 n w ≡ Silent

abbrev pub AreWaitingOn : BrokerState → Type 0
AreWaitingOn b = AllByRecursion (λ (l : Line). IsWaitingOnAt b.tenants l.number l.session.stage) b.lines

-- what is left to be looked at after a turn: all that may be ready of a tenant's waits stand among those
abbrev pub IsLeftTo : Concerned → BrokerState → Type 0
IsLeftTo concerned.Nobody b = ⊤
IsLeftTo (concerned.These t ns) b = (k : ℕ) → IsMinded (whoms.Tenant t) ns.items b k
IsLeftTo (concerned.All t) b = ⊤

-- 4. Who may go on

abbrev pub can_in : Option Session → Bool
can_in None = false
can_in (Some s) = can s

-- each connection that can take a turn is among those
abbrev pub AreAmong : List ℕ → BrokerState → Type 0
AreAmong ns b = (k : ℕ) → can_in (find_line k b.lines) ≡ true → Contains ns k
