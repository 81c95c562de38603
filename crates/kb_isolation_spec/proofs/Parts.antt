-- What a call for one tenant is to each tenant.
use Rattle.std.proofs.Common.{◌≡◌, ◌≢◌, ℕ, ◌≤◌, List, length, eqb, Bool, true, false, refl, sym, ◌∙◌, ap, arith, subst}
use Rattle.std.specs.Prelude.{map}
use Rattle.std.proofs.lemmas.Bool.Decides.{nat_tests}
use Rattle.std.proofs.lemmas.List.{length-map, get_or_past}
use Rattle.kb_tenant_state.specs.Counts.{IsCalm}
use Rattle.kb_tenant_api.specs.Hosted.{TenantState, refusals_of}
use Rattle.kb_tenant_api.specs.Turns.{IsTurn}
use Rattle.kb_isolation_spec.specs.Machine.{Line}
use Rattle.kb_isolation_spec.specs.Broker as broker
use Rattle.kb_isolation_spec.specs.Broker.{BrokerState, IsCalmFor, Grows}

-- how many refusals were counted for a tenant
abbrev pub count : List TenantState → ℕ → ℕ
count = refusals_of

pub count-past : (ps : List TenantState) (t : ℕ) → length ps ≤ t → count ps t ≡ 0
count-past ps t h = get_or_past (map (λ (x : TenantState). x.refusals) ps) t 0 (omega (arith, length-map ps (λ (x : TenantState). x.refusals)))

pub eqb_same : (u t : ℕ) → eqb u t ≡ true → u ≡ t
eqb_same u t h = grind (arith, nat_tests)

pub eqb_other : (u t : ℕ) → eqb u t ≡ false → t ≢ u
eqb_other u t h = λ e. let k : eqb u t ≡ true = grind (arith, nat_tests) in cc

-- what holds of the changed tenant and of the others holds of each
pub each-tenant : (P : ℕ → Type 0) (u t : ℕ) (b : Bool) → eqb u t ≡ b → P u → (t ≢ u → P t) → P t
each-tenant P u t true e here other = subst P (eqb_same u t e) here
each-tenant P u t false e here other = other (eqb_other u t e)

-- a call for a tenant leaves as many tenants as there were
pub turn-length : (u : ℕ) (H : Type 0) (ps qs : List TenantState) → IsTurn u H ps qs → length qs ≡ length ps
turn-length u H ps qs turn = sym (length-map qs (λ (x : TenantState). x.name)) ∙ (ap length turn.names ∙ length-map ps (λ (x : TenantState). x.name))

-- two calls for a tenant are one
pub turn-then : (u : ℕ) (H G : Type 0) (ps qs rs : List TenantState) → (G → H) → IsTurn u H ps qs → IsTurn u G qs rs → IsTurn u G ps rs
turn-then u H G ps qs rs before p q = record {
  names = q.names ∙ p.names;
  grows = λ t. let h = p.grows t in let k = q.grows t in omega arith;
  counts = λ t ne. q.counts t ne ∙ p.counts t ne;
  others = λ honest t ne. q.others honest t ne ∙ p.others (before honest) t ne;
}

-- what such a call is to the whole broker
pub turn-grows : (b : BrokerState) (u : ℕ) (H : Type 0) (ts : List TenantState) → IsTurn u H b.tenants ts → (lines : List Line) → Grows b (record b { tenants = ts; lines = lines })
turn-grows b u H ts turn lines = record { setup = refl; names = turn.names; own = turn.grows; unbound = omega arith }

-- counts that rise fall into two halves
pub calm-left : (a b c : ℕ) → a ≤ b → b ≤ c → IsCalm a c → IsCalm a b
calm-left a b c p q h = let e = h.same in let l = h.below in record { same = omega arith; below = h.below }

pub calm-right : (a b c : ℕ) → a ≤ b → b ≤ c → IsCalm a c → IsCalm b c
calm-right a b c p q h = let e = h.same in let l = h.below in record { same = omega arith; below = omega arith }

pub grows-same : (b : BrokerState) → Grows b b
grows-same b = record { setup = refl; names = refl; own = λ t. omega arith; unbound = omega arith }

pub grows-then : (a b c : BrokerState) → Grows a b → Grows b c → Grows a c
grows-then a b c p q = record { setup = q.setup ∙ p.setup; names = q.names ∙ p.names; own = λ t. let h = p.own t in let k = q.own t in omega arith; unbound = let h = p.unbound in let k = q.unbound in omega arith }

pub calm-first : (t : ℕ) (a b c : BrokerState) → Grows a b → Grows b c → IsCalmFor t a c → IsCalmFor t a b
calm-first t a b c p q h = record {
  own = calm-left (broker.refusals_of a t) (broker.refusals_of b t) (broker.refusals_of c t) (p.own t) (q.own t) h.own;
  unbound = calm-left a.unbound_refusals b.unbound_refusals c.unbound_refusals p.unbound q.unbound h.unbound;
}

pub calm-then : (t : ℕ) (a b c : BrokerState) → Grows a b → Grows b c → IsCalmFor t a c → IsCalmFor t b c
calm-then t a b c p q h = record {
  own = calm-right (broker.refusals_of a t) (broker.refusals_of b t) (broker.refusals_of c t) (p.own t) (q.own t) h.own;
  unbound = calm-right a.unbound_refusals b.unbound_refusals c.unbound_refusals p.unbound q.unbound h.unbound;
}

pub length-names : (a b : BrokerState) → Grows a b → length b.tenants ≡ length a.tenants
length-names a b g = sym (length-map b.tenants (λ (x : TenantState). x.name)) ∙ (ap length g.names ∙ length-map a.tenants (λ (x : TenantState). x.name))
