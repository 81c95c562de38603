-- The broker of all tenants, and what each of its steps is to each tenant.
use Rattle.std.specs.Prelude.{◌≡◌, ◌≢◌, ℕ, ◌<◌, ◌≤◌, ◌^◌, ◌==◌, List, [], ◌∷◌, length, Option, Some, None, Bool, true, ⊤, ◌⊎◌}
use Rattle.kb_wire.specs.declared.clock.TheConstants.{MAX_CLOCK}
use Rattle.std.specs.List.{AllByRecursion}
use Rattle.kb_tenant_state.specs.Counts.{IsCalm}
use Rattle.kb_tenant_api.specs.Hosted as hosted
use Rattle.kb_tenant_api.specs.Hosted.{Kept, TenantState, names_of}
use Rattle.kb_tenant.specs.Replies.{Silent}
use Rattle.kb_isolation_spec.specs.Tenant.{Wait, ready}
use Rattle.kb_isolation_spec.specs.Session.{Stage, Greets, BoundTo, Session}
use Rattle.kb_isolation_spec.specs.Greeting.{Setup, User}
use Rattle.kb_isolation_spec.specs.Machine.{Happening, Opens, Comes, Closes, Moment, Line, View, Sent, those, first_able, stepped, run, find_line}
use Rattle.kb_isolation_spec.specs.Owners.{OwnsLines, concerns, purge, owner, owned, whose}

-- the broker: what is fixed, the tenants in byte order of names, the refusals that were counted for no tenant, the clock,
-- the greatest number that a connection has had, and the open connections by rising number
pub record BrokerState : Type 0 where
  pub setup : Setup
  pub tenants : List TenantState
  pub unbound_refusals : ℕ
  pub clock : ℕ
  pub last : ℕ
  pub lines : List Line

-- 1. What a tenant sees of it

abbrev pub kept_of_tenant : BrokerState → ℕ → Kept
kept_of_tenant b t = hosted.kept_of b.tenants t

abbrev pub refusals_of : BrokerState → ℕ → ℕ
refusals_of b t = hosted.refusals_of b.tenants t

-- the world of a tenant whose connections are those
abbrev pub view_of : ℕ → (ℕ → Bool) → BrokerState → View
view_of t mine b = record { setup = b.setup; kept = kept_of_tenant b t; clock = b.clock; lines = those mine b.lines }

-- those are the tenant's connections, if these events are still to come
abbrev pub Mine : ℕ → (ℕ → Bool) → List Happening → BrokerState → Type 0
Mine t mine es b = OwnsLines b.setup t mine b.last es b.lines

abbrev pub bound_as : Option Session → Option ℕ
bound_as None = None
bound_as (Some s) = whose s.stage

-- the tenant that a connection is bound to
abbrev pub bound_to : ℕ → BrokerState → Option ℕ
bound_to n b = bound_as (find_line n b.lines)

-- 2. Refusals

-- nothing was refused for the tenant, nor for a connection that was not bound
pub record IsCalmFor (t : ℕ) (old new : BrokerState) : Type 0 where
  pub own : IsCalm (refusals_of old t) (refusals_of new t)
  pub unbound : IsCalm old.unbound_refusals new.unbound_refusals

-- what is fixed stays, there are as many tenants, and counts only rise
pub record Grows (old new : BrokerState) : Type 0 where
  pub setup : new.setup ≡ old.setup
  pub names : names_of new.tenants ≡ names_of old.tenants
  pub own : (t : ℕ) → refusals_of old t ≤ refusals_of new t
  pub unbound : old.unbound_refusals ≤ new.unbound_refusals

-- nothing is counted
pub record IsUncounted (old new : BrokerState) : Type 0 where
  pub own : (t : ℕ) → refusals_of new t ≡ refusals_of old t
  pub unbound : new.unbound_refusals ≡ old.unbound_refusals

abbrev pub is_deaf : Option Session → Bool
is_deaf None = true
is_deaf (Some s) = s.shut

-- a piece that nobody takes: of no bytes, or on a number that is not open or is shut
abbrev pub IsUntaken : ℕ → List ℕ → BrokerState → Type 0
IsUntaken n piece b = (piece ≡ []) ⊎ (is_deaf (find_line n b.lines) ≡ true)

-- whose counts an event may raise: a tenant's in a moment, or where the connection has or gets that tenant; the unbound count where the
-- connection has no tenant
pub record IsComing (n : ℕ) (piece : List ℕ) (old new : BrokerState) : Type 0 where
  pub own : (t : ℕ) → bound_to n new ≢ Some t → refusals_of new t ≡ refusals_of old t
  pub unbound : (t : ℕ) → bound_to n old ≡ Some t → new.unbound_refusals ≡ old.unbound_refusals
  pub none : IsUntaken n piece old → IsUncounted old new

abbrev pub IsCounted : Happening → BrokerState → BrokerState → Type 0
IsCounted (Opens n) old new = (t : ℕ) → refusals_of new t ≡ refusals_of old t
IsCounted (Comes n piece) old new = IsComing n piece old new
IsCounted (Closes n) old new = IsUncounted old new
IsCounted (Moment now) old new = new.unbound_refusals ≡ old.unbound_refusals

-- 3. What holds between the events

abbrev pub InRange : ℕ → Stage → Type 0
InRange tenants (Greets greeting) = ⊤
InRange tenants (BoundTo tenant wait) = tenant < tenants

-- the numbers rise from above the first to at most the last
abbrev pub Rising : ℕ → ℕ → List Line → Type 0
Rising low last [] = low ≤ last
Rising low last (l ∷ ls) = (low < l.number) × Rising l.number last ls

-- numbers rise, and each tenant is one of the broker's
pub record IsSound (b : BrokerState) : Type 0 where
  pub rising : Rising 0 b.last b.lines
  pub in_range : AllByRecursion (λ l. InRange (length b.tenants) l.session.stage) b.lines
  pub users : AllByRecursion (λ (u : User). u.tenant < length b.tenants) b.setup.users
  pub clock : b.clock ≤ MAX_CLOCK

-- on the connection of number n, at that stage, nothing waits that is ready, among the waits of a tenant that pass
abbrev pub IsUnready : (ℕ → Wait → Type 0) → BrokerState → ℕ → Stage → Type 0
IsUnready P b n (Greets greeting) = ⊤
IsUnready P b n (BoundTo tenant None) = ⊤
IsUnready P b n (BoundTo tenant (Some wait)) = P tenant wait → ready (kept_of_tenant b tenant) b.clock n wait ≡ Silent

abbrev pub AreUnready : (ℕ → Wait → Type 0) → BrokerState → Type 0
AreUnready P b = AllByRecursion (λ l. IsUnready P b l.number l.session.stage) b.lines

abbrev pub AnyWait : ℕ → Wait → Type 0
AnyWait tenant wait = ⊤

-- and no connection can take a turn, and no request that waits is ready
pub record IsReady (b : BrokerState) : Type 0 where
  pub sound : IsSound b
  pub settled : first_able b.lines ≡ None
  pub unready : AreUnready AnyWait b

-- 4. Events

-- the greatest number that there may be after an event
abbrev pub last_after : Happening → ℕ → ℕ
last_after (Opens n) last = n
last_after (Comes n piece) last = last
last_after (Closes n) last = last
last_after (Moment now) last = last

-- to each tenant an event of the broker is an event of its machine, or nothing where it is not the tenant's own, unless something was
-- refused to it
pub record IsStep (e : Happening) (old new : BrokerState) : Type 0 where
  pub last : new.last ≤ last_after e old.last
  pub grows : Grows old new
  pub counted : IsCounted e old new
  -- whose connections they are is settled by what they have said and what is still to come
  pub mine : (t : ℕ) (mine : ℕ → Bool) (es : List Happening) → Mine t mine (e ∷ es) old → IsCalm old.unbound_refusals new.unbound_refusals
      → Mine t mine es new
  pub view : (t : ℕ) (mine : ℕ → Bool) (es : List Happening) → Mine t mine (e ∷ es) old → IsCalmFor t old new
      → view_of t mine new ≡ stepped (concerns mine e) e (view_of t mine old)

-- numbers of new connections rise, and no moment is after MAX_CLOCK
abbrev pub IsEventRun : ℕ → List Happening → Type 0
IsEventRun last [] = ⊤
IsEventRun last (Opens n ∷ es) = (last < n) × IsEventRun n es
IsEventRun last (Comes n piece ∷ es) = IsEventRun last es
IsEventRun last (Closes n ∷ es) = IsEventRun last es
IsEventRun last (Moment now ∷ es) = (now ≤ MAX_CLOCK) × IsEventRun last es

-- 5. Whole runs

-- the connections whose owner is the tenant
abbrev pub owned_by : ℕ → List Happening → BrokerState → ℕ → Bool
owned_by t es b n = owned b.setup b.lines es t n

-- what the machine of the tenant alone writes, given the tenant's events and the moments
abbrev pub alone : ℕ → List Happening → BrokerState → List Sent
alone t es b = run (purge (owned_by t es b) es) (view_of t (owned_by t es b) b)

abbrev pub only : ℕ → ℕ → Bool
only n k = k == n

-- a connection without owner
abbrev pub IsUnowned : ℕ → List Happening → BrokerState → Type 0
IsUnowned n es b = owner b.setup b.lines es n ≡ None

-- what a machine with nothing in it but that connection writes
abbrev pub alone_unowned : ℕ → List Happening → BrokerState → List Sent
alone_unowned n es b = run (purge (only n) es) (view_of (length b.tenants) (only n) b)
