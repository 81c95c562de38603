-- The tenants, where one keeps what is left once a connection is gone on which a member of a group waited.
use Rattle.std.proofs.Common.{◌≡◌, ℕ, List, [], ◌∷◌, length, Option, None, Bool, true, false, zero, suc, refl, ◌∙◌, ap}
use Rattle.std.specs.Prelude.{cond}
use Rattle.kb_tenant_api.specs.Hosted.{Kept, TenantState, kept_of, refusals_of, names_of, left}
use Rattle.kb_tenant_api.specs.Turns.{with_kept}
use Rattle.kb_isolation_spec.specs.Tenant.{Wait, ready, asked}
use Rattle.kb_isolation_spec.specs.Session.{Stage, Greets, BoundTo, has_member, without_wait}
use Rattle.kb_isolation_spec.specs.Calls.{left_by}
use Rattle.kb_isolation_spec.proofs.Leaving.{ready-left, asked-left}

-- 1. One tenant keeps something else

pub with-names : (t : ℕ) (k : Kept) (ts : List TenantState) → names_of (with_kept t k ts) ≡ names_of ts
unfolding with_kept
with-names t k [] = refl
with-names zero k (x ∷ xs) = refl
with-names (suc t) k (x ∷ xs) = ap (λ ns. x.name ∷ ns) (with-names t k xs)

pub with-refusals : (t : ℕ) (k : Kept) (ts : List TenantState) (u : ℕ) → refusals_of (with_kept t k ts) u ≡ refusals_of ts u
unfolding with_kept
with-refusals t k [] u = refl
with-refusals zero k (x ∷ xs) zero = refl
with-refusals zero k (x ∷ xs) (suc u) = refl
with-refusals (suc t) k (x ∷ xs) zero = refl
with-refusals (suc t) k (x ∷ xs) (suc u) = with-refusals t k xs u

pub with-length : (t : ℕ) (k : Kept) (ts : List TenantState) → length (with_kept t k ts) ≡ length ts
unfolding with_kept
with-length t k [] = refl
with-length zero k (x ∷ xs) = refl
with-length (suc t) k (x ∷ xs) = ap suc (with-length t k xs)

-- what holds of each tenant, and of that one with what it keeps then
pub with-each : (P : ℕ → Kept → Type 0) (t : ℕ) (k : Kept) (ts : List TenantState) → ((u : ℕ) → P u (kept_of ts u)) → P t k → (u : ℕ) → P u (kept_of (with_kept t k ts) u)
unfolding with_kept
with-each P t k [] each own u = each u
with-each P zero k (x ∷ xs) each own zero = own
with-each P zero k (x ∷ xs) each own (suc u) = each (suc u)
with-each P (suc t) k (x ∷ xs) each own zero = each zero
with-each P (suc t) k (x ∷ xs) each own (suc u) = with-each (λ v. P (suc v)) t k xs (λ v. each (suc v)) own u

pub with-other : (t : ℕ) (k : Kept) (ts : List TenantState) (u : ℕ) → (u ≡ t → ⊥) → kept_of (with_kept t k ts) u ≡ kept_of ts u
with-other t k ts u ne = with-each (λ v x. (v ≡ t → ⊥) → x ≡ kept_of ts v) t k ts (λ v apart. refl) (λ apart. absurd (apart refl)) u ne

-- 2. A connection is gone

-- by whether a member waited on it
pub left-cases : (P : List TenantState → Type 0) (clock n : ℕ) (st : Stage) (ts : List TenantState) → P ts → ((t : ℕ) → P (with_kept t (left clock n (kept_of ts t)) ts)) → P (left_by clock n st ts)
left-cases P clock n (Greets h) ts stays goes = stays
left-cases P clock n (BoundTo t wait) ts stays goes = by (has_member (BoundTo t wait))
  where
    by : (b : Bool) → P (cond b (with_kept t (left clock n (kept_of ts t)) ts) ts)
    by true = goes t
    by false = stays

-- one waited on it, whose tenant this is
pub left-some : (clock n t : ℕ) (st : Stage) (ts : List TenantState) → true ≡ has_member st → BoundTo t None ≡ without_wait st → with_kept t (left clock n (kept_of ts t)) ts ≡ left_by clock n st ts
left-some clock n t (Greets h) ts some bound = absurd (cc)
left-some clock n t (BoundTo u wait) ts some bound =
    let is : t ≡ u = cc in
    ap (λ v. with_kept v (left clock n (kept_of ts v)) ts) is ∙ ap (λ (b : Bool). cond b (with_kept u (left clock n (kept_of ts u)) ts) ts) some

pub left-names : (clock n : ℕ) (st : Stage) (ts : List TenantState) → names_of (left_by clock n st ts) ≡ names_of ts
left-names clock n st ts = left-cases (λ us. names_of us ≡ names_of ts) clock n st ts refl (λ t. with-names t (left clock n (kept_of ts t)) ts)

pub left-refusals : (clock n : ℕ) (st : Stage) (ts : List TenantState) (u : ℕ) → refusals_of (left_by clock n st ts) u ≡ refusals_of ts u
left-refusals clock n st ts u = left-cases (λ us. refusals_of us u ≡ refusals_of ts u) clock n st ts refl (λ t. with-refusals t (left clock n (kept_of ts t)) ts u)

pub left-length : (clock n : ℕ) (st : Stage) (ts : List TenantState) → length (left_by clock n st ts) ≡ length ts
left-length clock n st ts = left-cases (λ us. length us ≡ length ts) clock n st ts refl (λ t. with-length t (left clock n (kept_of ts t)) ts)

-- what holds of each tenant, also with what is left of what it keeps
pub left-each : (P : ℕ → Kept → Type 0) (clock n : ℕ) (st : Stage) (ts : List TenantState) → ((u : ℕ) → P u (kept_of ts u)) → ((u : ℕ) → P u (left clock n (kept_of ts u))) → (u : ℕ) → P u (kept_of (left_by clock n st ts) u)
left-each P clock n st ts each gone u = left-cases (λ us. P u (kept_of us u)) clock n st ts (each u) (λ t. with-each P t (left clock n (kept_of ts t)) ts each (gone t) u)

-- a tenant that the connection is not bound to keeps what it kept
pub left-other : (clock n : ℕ) (st : Stage) (ts : List TenantState) (u : ℕ) → ((t : ℕ) (wait : Option Wait) → st ≡ BoundTo t wait → u ≡ t → ⊥) → kept_of (left_by clock n st ts) u ≡ kept_of ts u
left-other clock n (Greets h) ts u apart = refl
left-other clock n (BoundTo t wait) ts u apart = by (has_member (BoundTo t wait))
  where
    by : (b : Bool) → kept_of (cond b (with_kept t (left clock n (kept_of ts t)) ts) ts) u ≡ kept_of ts u
    by true = with-other t (left clock n (kept_of ts t)) ts u (apart t wait refl)
    by false = refl

-- 3. What waits is as ready as before

pub left-ready_in : (clock n : ℕ) (st : Stage) (ts : List TenantState) (u c m : ℕ) (w : Wait) → ready (kept_of (left_by clock n st ts) u) c m w ≡ ready (kept_of ts u) c m w
left-ready_in clock n st ts u c m w = left-each (λ v k. ready k c m w ≡ ready (kept_of ts v) c m w) clock n st ts (λ v. refl) (λ v. ready-left clock n (kept_of ts v) c m w) u

pub left-asked_in : (clock n : ℕ) (st : Stage) (ts : List TenantState) (u : ℕ) (w : Wait) → asked (kept_of (left_by clock n st ts) u) w ≡ asked (kept_of ts u) w
left-asked_in clock n st ts u w = left-each (λ v k. asked k w ≡ asked (kept_of ts v) w) clock n st ts (λ v. refl) (λ v. asked-left clock n (kept_of ts v) w) u
