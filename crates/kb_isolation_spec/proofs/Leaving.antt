-- A connection that is gone, on which a member may have waited.
use Rattle.std.proofs.Common.{◌≡◌, ◌≢◌, ℕ, zero, suc, List, [], ◌∷◌, eqb, Bool, true, false, Option, Some, None, refl, sym, ◌∙◌, ap, subst, arith}
use Rattle.std.specs.Prelude.{cond}
use Rattle.std.specs.List.{AllByRecursion}
use Rattle.std.proofs.lemmas.Bool.Decides.{nat_tests}
use Rattle.kb_tenant_api.specs.Hosted.{Kept, TenantState, kept_of, refusals_of, names_of, left}
use Rattle.kb_tenant_api.specs.Turns.{with_kept}
use Rattle.kb_isolation_spec.specs.Tenant.{Wait, Awaited, Records, Group, ready, ready_for, asked, asked_for}
use Rattle.kb_isolation_spec.specs.Session.{Stage, Greets, BoundTo, Session, has_member, overruns}
use Rattle.kb_isolation_spec.specs.Greeting.{Setup}
use Rattle.kb_isolation_spec.specs.Machine.{Happening, Line, those, find_line, kept_without, kept_closed, kept_fed}
use Rattle.kb_isolation_spec.specs.Owners.{whose}
use Rattle.kb_isolation_spec.specs.Calls.{left_by, left_in}
use Rattle.kb_isolation_spec.proofs.Owners.{IsBound, IsMine, mine-bound}
use Rattle.kb_isolation_spec.proofs.Parts.{each-tenant, eqb_same, eqb_other}

-- 1. What is kept

-- nothing becomes ready
pub ready-left : (clock n : ℕ) (kept : Kept) (at k : ℕ) (w : Wait) → ready (left clock n kept) at k w ≡ ready kept at k w
unfolding left ready
ready-left clock n kept at k w = by w.awaited
  where
    by : (x : Awaited) → ready_for (left clock n kept) at k x ≡ ready_for kept at k x
    by (Records version body deadline limit) = refl
    by Group = refl

-- each waits for what it waited for
pub asked-left : (clock n : ℕ) (kept : Kept) (w : Wait) → asked (left clock n kept) w ≡ asked kept w
unfolding left asked
asked-left clock n kept w = by w.awaited
  where
    by : (x : Awaited) → asked_for (left clock n kept) x ≡ asked_for kept x
    by (Records version body deadline limit) = refl
    by Group = refl

-- 2. A tenant that keeps something else

pub names-with : (t : ℕ) (kept : Kept) (ts : List TenantState) → names_of (with_kept t kept ts) ≡ names_of ts
unfolding with_kept
names-with t kept [] = refl
names-with zero kept (x ∷ xs) = refl
names-with (suc t) kept (x ∷ xs) = ap (λ ns. x.name ∷ ns) (names-with t kept xs)

pub refusals-with : (t : ℕ) (kept : Kept) (ts : List TenantState) (u : ℕ) → refusals_of (with_kept t kept ts) u ≡ refusals_of ts u
unfolding with_kept
refusals-with t kept [] u = refl
refusals-with zero kept (x ∷ xs) zero = refl
refusals-with zero kept (x ∷ xs) (suc u) = refl
refusals-with (suc t) kept (x ∷ xs) zero = refl
refusals-with (suc t) kept (x ∷ xs) (suc u) = refusals-with t kept xs u

-- one that there is not keeps nothing, before and after
pub kept-with : (clock n t : ℕ) (ts : List TenantState) → kept_of (with_kept t (left clock n (kept_of ts t)) ts) t ≡ left clock n (kept_of ts t)
unfolding with_kept left
kept-with clock n t [] = refl
kept-with clock n zero (x ∷ xs) = refl
kept-with clock n (suc t) (x ∷ xs) = kept-with clock n t xs

pub kept-other : (t u : ℕ) (kept : Kept) (ts : List TenantState) → u ≢ t → kept_of (with_kept t kept ts) u ≡ kept_of ts u
unfolding with_kept
kept-other t u kept [] ne = refl
kept-other zero zero kept (x ∷ xs) ne = absurd (ne refl)
kept-other zero (suc u) kept (x ∷ xs) ne = refl
kept-other (suc t) zero kept (x ∷ xs) ne = refl
kept-other (suc t) (suc u) kept (x ∷ xs) ne = kept-other t u kept xs (λ e. ne (ap suc e))

-- 3. The tenants once the connection is gone

pub left-names : (clock n : ℕ) (st : Stage) (ts : List TenantState) → names_of (left_by clock n st ts) ≡ names_of ts
left-names clock n (Greets h) ts = refl
left-names clock n (BoundTo t w) ts = by (has_member (BoundTo t w))
  where
    by : (b : Bool) → names_of (cond b (with_kept t (left clock n (kept_of ts t)) ts) ts) ≡ names_of ts
    by true = names-with t (left clock n (kept_of ts t)) ts
    by false = refl

pub left-refusals : (clock n : ℕ) (st : Stage) (ts : List TenantState) (u : ℕ) → refusals_of (left_by clock n st ts) u ≡ refusals_of ts u
left-refusals clock n (Greets h) ts u = refl
left-refusals clock n (BoundTo t w) ts u = by (has_member (BoundTo t w))
  where
    by : (b : Bool) → refusals_of (cond b (with_kept t (left clock n (kept_of ts t)) ts) ts) u ≡ refusals_of ts u
    by true = refusals-with t (left clock n (kept_of ts t)) ts u
    by false = refl

-- its own tenant keeps what its machine does
pub left-own : (clock n t : ℕ) (st : Stage) (ts : List TenantState) → ((u : ℕ) → whose st ≡ Some u → u ≡ t) → kept_of (left_by clock n st ts) t ≡ kept_without clock n st (kept_of ts t)
left-own clock n t (Greets h) ts own = refl
left-own clock n t (BoundTo u w) ts own = by (has_member (BoundTo u w))
  where
    by : (b : Bool) → kept_of (cond b (with_kept u (left clock n (kept_of ts u)) ts) ts) t ≡ cond b (left clock n (kept_of ts t)) (kept_of ts t)
    by true = ap (λ v. kept_of (with_kept v (left clock n (kept_of ts v)) ts) t) (own u refl) ∙ kept-with clock n t ts
    by false = refl

-- any other what it kept
pub left-other : (clock n t : ℕ) (st : Stage) (ts : List TenantState) → ((u : ℕ) → whose st ≡ Some u → t ≢ u) → kept_of (left_by clock n st ts) t ≡ kept_of ts t
left-other clock n t (Greets h) ts other = refl
left-other clock n t (BoundTo u w) ts other = by (has_member (BoundTo u w))
  where
    by : (b : Bool) → kept_of (cond b (with_kept u (left clock n (kept_of ts u)) ts) ts) t ≡ kept_of ts t
    by true = kept-other u t (left clock n (kept_of ts u)) ts (other u refl)
    by false = refl

-- and of none anything becomes ready
pub left-ready : (clock n : ℕ) (st : Stage) (ts : List TenantState) (t at k : ℕ) (w : Wait) → ready (kept_of (left_by clock n st ts) t) at k w ≡ ready (kept_of ts t) at k w
left-ready clock n (Greets h) ts t at k w = refl
left-ready clock n (BoundTo u x) ts t at k w = by (has_member (BoundTo u x))
  where
    by : (b : Bool) → ready (kept_of (cond b (with_kept u (left clock n (kept_of ts u)) ts) ts) t) at k w ≡ ready (kept_of ts t) at k w
    by true = each-tenant (λ v. ready (kept_of (with_kept u (left clock n (kept_of ts u)) ts) v) at k w ≡ ready (kept_of ts v) at k w) u t (eqb u t) refl
        (ap (λ kept. ready kept at k w) (kept-with clock n u ts) ∙ ready-left clock n (kept_of ts u) at k w)
        (λ ne. ap (λ kept. ready kept at k w) (kept-other u t (left clock n (kept_of ts u)) ts ne))
    by false = refl

-- 4. Whose connection it is

-- of the connection of a number holds what holds of each
pub all-found : (P : Line → Type 0) (n : ℕ) (ls : List Line) (s : Session) → AllByRecursion P ls → find_line n ls ≡ Some s → P (record { number = n; session = s })
all-found P n [] s h e = absurd (cc)
all-found P n (l ∷ ls) s h e = by (eqb l.number n) refl (all-found P n ls s h.1) e
  where
    by : (b : Bool) → eqb l.number n ≡ b → (find_line n ls ≡ Some s → P (record { number = n; session = s })) → cond b (Some l.session) (find_line n ls) ≡ Some s → P (record { number = n; session = s })
    by true f rest g =
        let same : l.session ≡ s = cc in
        subst (λ x. P (record { number = n; session = x })) same (subst (λ k. P (record { number = k; session = l.session })) (eqb_same l.number n f) h.0)
    by false f rest g = rest g

bound-whose : (u : ℕ) (s : Session) (st : Stage) → s.stage ≡ st → whose st ≡ Some u → IsBound u s
bound-whose u s (Greets h) e f = absurd (cc)
bound-whose u s (BoundTo v w) e f = let same : v ≡ u = cc in record { wait = w; is = e ∙ ap (λ x. BoundTo x w) same }

-- a bound connection among the tenant's is bound to it, and any other is not
pub own-whose : (setup : Setup) (t : ℕ) (mine : ℕ → Bool) (es : List Happening) (l : Line) → IsMine setup t mine es l → mine l.number ≡ true → (u : ℕ) → whose l.session.stage ≡ Some u → u ≡ t
own-whose setup t mine es l m among u e = eqb_same u t (sym (mine-bound setup t mine es l u (bound-whose u l.session l.session.stage refl e) m) ∙ among)

pub other-whose : (setup : Setup) (t : ℕ) (mine : ℕ → Bool) (es : List Happening) (l : Line) → IsMine setup t mine es l → mine l.number ≡ false → (u : ℕ) → whose l.session.stage ≡ Some u → t ≢ u
other-whose setup t mine es l m apart u e = eqb_other u t (sym (mine-bound setup t mine es l u (bound-whose u l.session l.session.stage refl e) m) ∙ apart)

-- it is found among the tenant's as among all
pub find-those : (mine : ℕ → Bool) (n : ℕ) (ls : List Line) → mine n ≡ true → find_line n (those mine ls) ≡ find_line n ls
find-those mine n [] among = refl
find-those mine n (l ∷ ls) among = let rest = find-those mine n ls among in grind (arith, nat_tests, rest)

-- 5. It closes

module _ (setup : Setup) (t n clock : ℕ) (mine : ℕ → Bool) (es : List Happening) (ts : List TenantState) where
  -- to its own tenant it leaves what its machine does, where it is among the tenant's connections
  closed-own : (o : Option Session) → ((s : Session) → o ≡ Some s → IsMine setup t mine es (record { number = n; session = s })) → mine n ≡ true → kept_of (left_in clock n o ts) t ≡ kept_closed clock n o (kept_of ts t)
  closed-own None m among = refl
  closed-own (Some s) m among = left-own clock n t s.stage ts (own-whose setup t mine es (record { number = n; session = s }) (m s refl) among)

  closed-other : (o : Option Session) → ((s : Session) → o ≡ Some s → IsMine setup t mine es (record { number = n; session = s })) → mine n ≡ false → kept_of (left_in clock n o ts) t ≡ kept_of ts t
  closed-other None m apart = refl
  closed-other (Some s) m apart = left-other clock n t s.stage ts (other-whose setup t mine es (record { number = n; session = s }) (m s refl) apart)

pub kept-closed : (setup : Setup) (t n clock : ℕ) (mine : ℕ → Bool) (es : List Happening) (ts : List TenantState) (ls : List Line) → AllByRecursion (IsMine setup t mine es) ls → mine n ≡ true → kept_of (left_in clock n (find_line n ls) ts) t ≡ kept_closed clock n (find_line n (those mine ls)) (kept_of ts t)
kept-closed setup t n clock mine es ts ls m among =
    closed-own setup t n clock mine es ts (find_line n ls) (λ s e. all-found (IsMine setup t mine es) n ls s m e) among
    ∙ ap (λ o. kept_closed clock n o (kept_of ts t)) (sym (find-those mine n ls among))

pub kept-unclosed : (setup : Setup) (t n clock : ℕ) (mine : ℕ → Bool) (es : List Happening) (ts : List TenantState) (ls : List Line) → AllByRecursion (IsMine setup t mine es) ls → mine n ≡ false → kept_of (left_in clock n (find_line n ls) ts) t ≡ kept_of ts t
kept-unclosed setup t n clock mine es ts ls m apart = closed-other setup t n clock mine es ts (find_line n ls) (λ s e. all-found (IsMine setup t mine es) n ls s m e) apart

-- names and counts stay
pub names-closed : (clock n : ℕ) (o : Option Session) (ts : List TenantState) → names_of (left_in clock n o ts) ≡ names_of ts
names-closed clock n None ts = refl
names-closed clock n (Some s) ts = left-names clock n s.stage ts

pub refusals-closed : (clock n : ℕ) (o : Option Session) (ts : List TenantState) (u : ℕ) → refusals_of (left_in clock n o ts) u ≡ refusals_of ts u
refusals-closed clock n None ts u = refl
refusals-closed clock n (Some s) ts u = left-refusals clock n s.stage ts u

pub ready-closed : (clock n : ℕ) (o : Option Session) (ts : List TenantState) (t at k : ℕ) (w : Wait) → ready (kept_of (left_in clock n o ts) t) at k w ≡ ready (kept_of ts t) at k w
ready-closed clock n None ts t at k w = refl
ready-closed clock n (Some s) ts t at k w = left-ready clock n s.stage ts t at k w

-- 6. A piece comes on it that may be longer than its room

-- the tenants once a piece came: one that is longer than the connection's room shuts it
abbrev pub left_fed : List ℕ → ℕ → ℕ → Session → List TenantState → List TenantState
left_fed piece clock n s ts = cond (overruns piece s) (left_by clock n s.stage ts) ts

pub names-fed : (piece : List ℕ) (clock n : ℕ) (s : Session) (ts : List TenantState) → names_of (left_fed piece clock n s ts) ≡ names_of ts
names-fed piece clock n s ts = by (overruns piece s)
  where
    by : (b : Bool) → names_of (cond b (left_by clock n s.stage ts) ts) ≡ names_of ts
    by true = left-names clock n s.stage ts
    by false = refl

pub refusals-fed : (piece : List ℕ) (clock n : ℕ) (s : Session) (ts : List TenantState) (u : ℕ) → refusals_of (left_fed piece clock n s ts) u ≡ refusals_of ts u
refusals-fed piece clock n s ts u = by (overruns piece s)
  where
    by : (b : Bool) → refusals_of (cond b (left_by clock n s.stage ts) ts) u ≡ refusals_of ts u
    by true = left-refusals clock n s.stage ts u
    by false = refl

pub ready-fed : (piece : List ℕ) (clock n : ℕ) (s : Session) (ts : List TenantState) (t at k : ℕ) (w : Wait) → ready (kept_of (left_fed piece clock n s ts) t) at k w ≡ ready (kept_of ts t) at k w
ready-fed piece clock n s ts t at k w = by (overruns piece s)
  where
    by : (b : Bool) → ready (kept_of (cond b (left_by clock n s.stage ts) ts) t) at k w ≡ ready (kept_of ts t) at k w
    by true = left-ready clock n s.stage ts t at k w
    by false = refl

pub kept-fed : (setup : Setup) (t clock : ℕ) (mine : ℕ → Bool) (es : List Happening) (ts : List TenantState) (piece : List ℕ) (l : Line) → IsMine setup t mine es l → mine l.number ≡ true → kept_of (left_fed piece clock l.number l.session ts) t ≡ kept_fed piece clock l.number (Some l.session) (kept_of ts t)
kept-fed setup t clock mine es ts piece l m among = by (overruns piece l.session)
  where
    by : (b : Bool) → kept_of (cond b (left_by clock l.number l.session.stage ts) ts) t ≡ cond b (kept_without clock l.number l.session.stage (kept_of ts t)) (kept_of ts t)
    by true = left-own clock l.number t l.session.stage ts (own-whose setup t mine es l m among)
    by false = refl

pub kept-unfed : (setup : Setup) (t clock : ℕ) (mine : ℕ → Bool) (es : List Happening) (ts : List TenantState) (piece : List ℕ) (l : Line) → IsMine setup t mine es l → mine l.number ≡ false → kept_of (left_fed piece clock l.number l.session ts) t ≡ kept_of ts t
kept-unfed setup t clock mine es ts piece l m apart = by (overruns piece l.session)
  where
    by : (b : Bool) → kept_of (cond b (left_by clock l.number l.session.stage ts) ts) t ≡ kept_of ts t
    by true = left-other clock l.number t l.session.stage ts (other-whose setup t mine es l m apart)
    by false = refl
