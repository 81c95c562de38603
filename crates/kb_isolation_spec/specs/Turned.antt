-- The broker within an event: what stands between what happened and the end of the turns that it led to.
use Rattle.std.specs.Prelude.{◌≡◌, ◌≢◌, ◌==◌, ℕ, List, ◌∷◌, map, Bool, true, false, not, ◌&&◌, Option, Some, None, ⊤, ◌⊎◌}
use Rattle.std.specs.List.{AllByRecursion}
use Rattle.kb_isolation_spec.specs.Tenant.{Wait, is_overdue}
use Rattle.kb_isolation_spec.specs.Session.{Session, can, is_free}
use Rattle.kb_isolation_spec.specs.Machine.{Happening, Comes, Line, all_woken, turns, stepped, find_line}
use Rattle.kb_isolation_spec.specs.Owners.{whose}
use Rattle.kb_tenant_state.specs.Counts.{IsCalm}
use Rattle.kb_isolation_spec.specs.declared.whom.Whom.{Whom}
use Rattle.kb_isolation_spec.specs.declared.whom.Whom.TheVariants as whoms
use Rattle.kb_isolation_spec.specs.Stranded.{NoneStranded}
use Rattle.kb_isolation_spec.specs.Broker.{BrokerState, IsSound, AreUnready, AnyWait, Grows, IsCalmFor, Mine, view_of, kept_of_tenant, refusals_of}
use Rattle.kb_isolation_spec.specs.Broker.{bound_to}

-- 1. Whose event it is

-- that of a connection on which bytes came, or of everybody: a moment
pub data Scope : Type 0 where
  Of : (number : ℕ) → Scope
  Everybody : Scope

-- a tenant's connections may take turns: it is the tenant of the connection on which bytes came
abbrev pub HasTenant : Scope → BrokerState → ℕ → Type 0
HasTenant (Of n) b t = bound_to n b ≡ Some t
HasTenant Everybody b t = ⊤

-- the connection on which bytes came
abbrev pub IsItself : Scope → Line → Type 0
IsItself (Of n) l = l.number ≡ n
IsItself Everybody l = ⊥

-- a connection may take turns: the one on which bytes came, and one of a tenant whose connections may
abbrev pub InScope : Scope → BrokerState → Line → Type 0
InScope scope b l = IsItself scope l ⊎ ((t : ℕ) × HasTenant scope b t × (whose l.session.stage ≡ Some t))

-- any other connection cannot take one
abbrev pub IsStill : Scope → BrokerState → Line → Type 0
IsStill scope b l = can l.session ≡ true → InScope scope b l

abbrev pub AreStill : Scope → BrokerState → Type 0
AreStill scope b = AllByRecursion (IsStill scope b) b.lines

-- a tenant's count changes only where the connection has or gets the tenant, the unbound count only where it has none
abbrev pub IsCountedIn : Scope → BrokerState → BrokerState → Type 0
IsCountedIn (Of n) old new = ((t : ℕ) → bound_to n new ≢ Some t → refusals_of new t ≡ refusals_of old t)
    × ((t : ℕ) → bound_to n old ≡ Some t → new.unbound_refusals ≡ old.unbound_refusals)
IsCountedIn Everybody old new = new.unbound_refusals ≡ old.unbound_refusals

-- 2. Turns

-- what holds from one moment within an event to a later one: numbers stay, and a bound connection stays bound
pub record IsGoing (old new : BrokerState) : Type 0 where
  pub sound : IsSound new
  pub grows : Grows old new
  pub clock : new.clock ≡ old.clock
  pub last : new.last ≡ old.last
  pub numbers : map (λ (l : Line). l.number) new.lines ≡ map (λ (l : Line). l.number) old.lines
  pub bound : (k t : ℕ) → bound_to k old ≡ Some t → bound_to k new ≡ Some t

-- a connection that is not open, or neither waits nor can take a turn
abbrev pub is_resting : Option Session → Bool
is_resting None = true
is_resting (Some s) = is_free s.stage && not (can s)

-- a connection that rests stays as it is
abbrev pub AreUntouched : BrokerState → BrokerState → Type 0
AreUntouched old new = (k : ℕ) → is_resting (find_line k old.lines) ≡ true → find_line k new.lines ≡ find_line k old.lines

-- no other connection has changed
abbrev pub SameOthers : ℕ → BrokerState → BrokerState → Type 0
SameOthers n old new = (k : ℕ) → k ≢ n → find_line k new.lines ≡ find_line k old.lines

-- connections took some turns: to each tenant they are turns of its machine, or nothing, unless something was refused to it
pub record Turned (scope : Scope) (old new : BrokerState) : Type 0 where
  pub going : IsGoing old new
  pub still : AreStill scope new
  pub counted : IsCountedIn scope old new
  pub untouched : AreUntouched old new
  pub unready : AreUnready AnyWait old → AreUnready AnyWait new
  pub held : NoneStranded old → NoneStranded new
  pub mine : (t : ℕ) (mine : ℕ → Bool) (es : List Happening) → Mine t mine es old → IsCalm old.unbound_refusals new.unbound_refusals
      → Mine t mine es new
  pub view : (t : ℕ) (mine : ℕ → Bool) (es : List Happening) → Mine t mine es old → IsCalmFor t old new
      → turns (view_of t mine new) ≡ turns (view_of t mine old)

-- the turn of a connection that is bound to a tenant, before the tenant's waiting requests are looked at again
pub record Served (tenant : ℕ) (scope : Scope) (old new : BrokerState) : Type 0 where
  pub going : IsGoing old new
  pub still : AreStill scope new
  pub counted : IsCountedIn scope old new
  pub untouched : AreUntouched old new
  pub tenants : HasTenant scope new tenant
  pub unready : AreUnready AnyWait old → AreUnready (λ t w. t ≢ tenant) new
  pub held : NoneStranded old → NoneStranded new
  pub mine : (t : ℕ) (mine : ℕ → Bool) (es : List Happening) → Mine t mine es old → Mine t mine es new
  pub others : (t : ℕ) (mine : ℕ → Bool) (es : List Happening) → Mine t mine es old → t ≢ tenant → view_of t mine new ≡ view_of t mine old
  pub view : (mine : ℕ → Bool) (es : List Happening) → Mine tenant mine es old → IsCalm (refusals_of old tenant) (refusals_of new tenant)
      → turns (all_woken (view_of tenant mine new)) ≡ turns (view_of tenant mine old)

-- a connection was given a piece, or was shut with a count; its turns are still to come
pub record IsFed (n : ℕ) (piece : List ℕ) (old new : BrokerState) : Type 0 where
  pub going : IsGoing old new
  pub still : AreStill (Of n) new
  pub counted : IsCountedIn (Of n) old new
  pub others : SameOthers n old new
  pub unready : AreUnready AnyWait old → AreUnready AnyWait new
  pub held : NoneStranded old → NoneStranded new
  pub mine : (t : ℕ) (mine : ℕ → Bool) (es : List Happening) → Mine t mine (Comes n piece ∷ es) old
      → IsCalm old.unbound_refusals new.unbound_refusals → Mine t mine es new
  pub view : (t : ℕ) (mine : ℕ → Bool) (es : List Happening) → Mine t mine (Comes n piece ∷ es) old → IsCalmFor t old new
      → turns (view_of t mine new) ≡ stepped (mine n) (Comes n piece) (view_of t mine old)

-- 3. Waiting requests that are looked at again

-- a look may be at a wait of the tenant
abbrev pub Concerns : Whom → ℕ → Type 0
Concerns (whoms.Tenant u) t = t ≡ u
Concerns whoms.Due t = ⊤
Concerns whoms.All t = ⊤

-- some were looked at and answered where they were ready: what tenants keep stays, and nothing happens to a tenant that is not concerned
pub record Waked (whom : Whom) (old new : BrokerState) : Type 0 where
  pub going : IsGoing old new
  pub unbound : new.unbound_refusals ≡ old.unbound_refusals
  pub untouched : AreUntouched old new
  pub counts : (t : ℕ) → (Concerns whom t → ⊥) → refusals_of new t ≡ refusals_of old t
  pub kept : (t : ℕ) → kept_of_tenant new t ≡ kept_of_tenant old t
  pub held : NoneStranded old → NoneStranded new
  pub still : (scope : Scope) → ((t : ℕ) → Concerns whom t → HasTenant scope old t) → AreStill scope old → AreStill scope new
  pub mine : (t : ℕ) (mine : ℕ → Bool) (es : List Happening) → Mine t mine es old → Mine t mine es new
  pub others : (t : ℕ) (mine : ℕ → Bool) (es : List Happening) → Mine t mine es old → (Concerns whom t → ⊥)
      → view_of t mine new ≡ view_of t mine old
  pub view : (t : ℕ) (mine : ℕ → Bool) (es : List Happening) → Mine t mine es old → IsCalm (refusals_of old t) (refusals_of new t)
      → all_woken (view_of t mine new) ≡ all_woken (view_of t mine old)

-- whether a wait is looked at
abbrev pub is_looked_for : Whom → ℕ → ℕ → Wait → Bool
is_looked_for (whoms.Tenant u) clock t w = t == u
is_looked_for whoms.Due clock t w = is_overdue clock w.awaited
is_looked_for whoms.All clock t w = true

abbrev pub IsLookedFor : Whom → ℕ → ℕ → Wait → Type 0
IsLookedFor whom clock t w = is_looked_for whom clock t w ≡ true

abbrev pub IsPassedOver : Whom → ℕ → ℕ → Wait → Type 0
IsPassedOver whom clock t w = is_looked_for whom clock t w ≡ false
