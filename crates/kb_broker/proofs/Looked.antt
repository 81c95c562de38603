-- Waiting requests that are looked at again, one after another.
use Rattle.std.proofs.Common.{◌≡◌, ◌≤◌, ℕ, zero, suc, List, [], ◌∷◌, length, take, set, true, false, Some, None, refl, sym, ◌∙◌, ap, subst, arith, inl, inr}
use Rattle.std.specs.List.{AllByRecursion}
use Rattle.std.proofs.lemmas.List.{set-get_or, take_all}
use Rattle.kb_tenant_api.specs.Hosted.{TenantState}
use Rattle.kb_isolation_spec.specs.Session.{Stage, Greets, BoundTo}
use Rattle.kb_isolation_spec.specs.Machine.{Line}
use Rattle.kb_isolation_spec.specs.Broker.{BrokerState, IsSound, IsUnready, AreUnready, AnyWait, kept_of_tenant}
use Rattle.kb_isolation_spec.specs.declared.whom.Whom.{Whom}
use Rattle.kb_isolation_spec.specs.declared.whom.Whom.TheVariants as whoms
use Rattle.kb_isolation_spec.specs.Turned.{Concerns, IsGoing, Waked, IsLookedFor, IsPassedOver}
use Rattle.kb_isolation_spec.proofs.Sets.{IsAt, all-at, all-set, all-map, tail-at, no-at, work-set}
use Rattle.kb_isolation_spec.proofs.Wakes.{waked-same, waked-then, waked-line}
use Rattle.kb_isolation_spec.proofs.Stranded.{stranded-looked}
use Rattle.kb_broker.specs.Places.{numbers, IsPassed, ArePassed, IsPassedBy, IsLookedAt, AreWaked, IsOneMore}
use Rattle.kb_isolation_spec.proofs.Turns.{unready-same, weaken, called-going}
use Rattle.kb_isolation_spec.proofs.Parts.{eqb_same}
use Rattle.kb_isolation_spec.specs.Tenant.{Wait}
use Rattle.kb_broker.proofs.Handled.{put_with, length-numbers, others-put}

-- 1. One look

-- whose waits are looked for is concerned
pub concerned : (whom : Whom) (clock t : ℕ) (w : Wait) → IsLookedFor whom clock t w → Concerns whom t
concerned (whoms.Tenant u) clock t w e = eqb_same t u e
concerned whoms.Due clock t w e = tt
concerned whoms.All clock t w e = tt

pub passed-same : (b : BrokerState) (i : ℕ) (l m : Line) (us : List TenantState) → IsAt b.lines i l → IsPassedBy b.tenants us l m → put_with b i m us ≡ b
passed-same b i l m us at p = ap (λ x. put_with b i x us) p.1 ∙ (ap (put_with b i l) p.0 ∙ ap (λ ls. record b { lines = ls }) (ap (set b.lines i) at.here ∙ set-get_or b.lines i l))

passed-waked : (whom : Whom) (b : BrokerState) (i : ℕ) (l m : Line) (us : List TenantState) → IsSound b → IsAt b.lines i l → IsPassedBy b.tenants us l m → Waked whom b (put_with b i m us)
passed-waked whom b i l m us s at p = subst (Waked whom b) (sym (passed-same b i l m us at p)) (waked-same whom b s)

pub looked-waked : (H : Type 0) → H → (whom : Whom) (b : BrokerState) (i : ℕ) (l m : Line) (us : List TenantState) (st : Stage) → IsSound b → IsAt b.lines i l → l.session.stage ≡ st → IsLookedAt H whom b.clock st b.tenants us l m → Waked whom b (put_with b i m us)
looked-waked H honest whom b i l m us (Greets h) s at e p = passed-waked whom b i l m us s at p
looked-waked H honest whom b i l m us (BoundTo t None) s at e p = passed-waked whom b i l m us s at p
looked-waked H honest whom b i l m us (BoundTo t (Some w)) s at e (inl p) = passed-waked whom b i l m us s at p.1
looked-waked H honest whom b i l m us (BoundTo t (Some w)) s at e (inr p) = let k = p.1 in waked-line whom b i t l m w H us s at e (concerned whom b.clock t w p.0) k.number k.stage k.turn honest (k.stays honest) (λ calm. k.meets honest calm)
    (λ held. stranded-looked b i t l m w us b.unbound_refusals b.clock s at k.number e (k.stays honest) (λ own. k.member honest w e own) held)

passed-stage : (l m : Line) (st : Stage) → l.session.stage ≡ st → m ≡ l → m.session.stage ≡ st
passed-stage l m st e same = ap (λ (x : Line). x.session.stage) same ∙ e

-- what is left of it is not ready, if it is looked for
looked-unready : (H : Type 0) → H → (whom : Whom) (b : BrokerState) (l m : Line) (us : List TenantState) (st : Stage) → l.session.stage ≡ st → IsLookedAt H whom b.clock st b.tenants us l m → IsUnready (IsLookedFor whom b.clock) b l.number m.session.stage
looked-unready H honest whom b l m us (Greets h) e p = subst (IsUnready (IsLookedFor whom b.clock) b l.number) (sym (passed-stage l m (Greets h) e p.1)) tt
looked-unready H honest whom b l m us (BoundTo t None) e p = subst (IsUnready (IsLookedFor whom b.clock) b l.number) (sym (passed-stage l m (BoundTo t None) e p.1)) tt
looked-unready H honest whom b l m us (BoundTo t (Some w)) e (inl p) = subst (IsUnready (IsLookedFor whom b.clock) b l.number) (sym (passed-stage l m (BoundTo t (Some w)) e p.1.1)) (λ looked. let no : true ≡ false = sym looked ∙ p.0 in absurd (cc))
looked-unready H honest whom b l m us (BoundTo t (Some w)) e (inr p) = weaken AnyWait (IsLookedFor whom b.clock) b (λ u x h. tt) l.number m.session.stage (p.1.unready honest b refl refl)

-- and where it was not ready if it is passed over, it is not ready in any case
looked-rest : (H : Type 0) → H → (whom : Whom) (b : BrokerState) (l m : Line) (us : List TenantState) (st : Stage) → l.session.stage ≡ st → IsLookedAt H whom b.clock st b.tenants us l m → IsUnready (IsPassedOver whom b.clock) b l.number l.session.stage → IsUnready AnyWait b l.number m.session.stage
looked-rest H honest whom b l m us (Greets h) e p u = subst (IsUnready AnyWait b l.number) (sym (passed-stage l m (Greets h) e p.1)) tt
looked-rest H honest whom b l m us (BoundTo t None) e p u = subst (IsUnready AnyWait b l.number) (sym (passed-stage l m (BoundTo t None) e p.1)) tt
looked-rest H honest whom b l m us (BoundTo t (Some w)) e (inl p) u = subst (IsUnready AnyWait b l.number) (sym (passed-stage l m (BoundTo t (Some w)) e p.1.1)) (λ any. subst (IsUnready (IsPassedOver whom b.clock) b l.number) e u p.0)
looked-rest H honest whom b l m us (BoundTo t (Some w)) e (inr p) u = p.1.unready honest b refl refl

looked-unread : (H : Type 0) (whom : Whom) (clock : ℕ) (old new : List TenantState) (l m : Line) (st : Stage) → IsLookedAt H whom clock st old new l m → length m.session.unread ≤ length l.session.unread
looked-unread H whom clock old new l m (Greets h) p = let e = ap (λ (x : Line). length x.session.unread) p.1 in omega (arith, e)
looked-unread H whom clock old new l m (BoundTo t None) p = let e = ap (λ (x : Line). length x.session.unread) p.1 in omega (arith, e)
looked-unread H whom clock old new l m (BoundTo t (Some w)) (inl p) = let e = ap (λ (x : Line). length x.session.unread) p.1.1 in omega (arith, e)
looked-unread H whom clock old new l m (BoundTo t (Some w)) (inr p) = p.1.unread

pub looked-number : (H : Type 0) (whom : Whom) (clock : ℕ) (old new : List TenantState) (l m : Line) (st : Stage) → IsLookedAt H whom clock st old new l m → m.number ≡ l.number
looked-number H whom clock old new l m (Greets h) p = ap (λ (x : Line). x.number) p.1
looked-number H whom clock old new l m (BoundTo t None) p = ap (λ (x : Line). x.number) p.1
looked-number H whom clock old new l m (BoundTo t (Some w)) (inl p) = ap (λ (x : Line). x.number) p.1.1
looked-number H whom clock old new l m (BoundTo t (Some w)) (inr p) = p.1.number

-- 2. One after another

take-set : (P : Line → Type 0) (ls : List Line) (i : ℕ) (l m : Line) → IsAt ls i l → AllByRecursion P (take i ls) → P m → AllByRecursion P (take (suc i) (set ls i m))
take-set P [] i l m at h p = no-at i l at
take-set P (k ∷ ls) zero l m at h p = (p, tt)
take-set P (k ∷ ls) (suc i) l m at h p = (h.0, take-set P ls i l m (tail-at k ls i l at) h.1 p)

-- at a later moment, in which tenants keep the same
all-same : (P : ℕ → Wait → Type 0) (b c : BrokerState) (ls : List Line) → c.clock ≡ b.clock → ((t : ℕ) → kept_of_tenant c t ≡ kept_of_tenant b t) → AllByRecursion (λ (l : Line). IsUnready P b l.number l.session.stage) ls → AllByRecursion (λ (l : Line). IsUnready P c l.number l.session.stage) ls
all-same P b c ls clock kept h = all-map (λ (l : Line). IsUnready P b l.number l.session.stage) (λ (l : Line). IsUnready P c l.number l.session.stage) (λ l. unready-same P b c l.number l.session.stage clock kept) ls h

-- whatever the store says: numbers stay, and a bound connection stays bound
looked-going : (H : Type 0) (whom : Whom) (b : BrokerState) (i : ℕ) (l m : Line) (us : List TenantState) (st : Stage) → IsSound b → IsAt b.lines i l → l.session.stage ≡ st → IsLookedAt H whom b.clock st b.tenants us l m → IsGoing b (put_with b i m us)
looked-going H whom b i l m us (Greets h) s at e p = (passed-waked whom b i l m us s at p).going
looked-going H whom b i l m us (BoundTo t None) s at e p = (passed-waked whom b i l m us s at p).going
looked-going H whom b i l m us (BoundTo t (Some w)) s at e (inl p) = (passed-waked whom b i l m us s at p.1).going
looked-going H whom b i l m us (BoundTo t (Some w)) s at e (inr p) = let k = p.1 in called-going b i t l m H us s at (record { wait = Some w; is = e }) k.number k.stage k.turn

pub one-more : (H : Type 0) (whom : Whom) (b : BrokerState) (i : ℕ) (l m : Line) (us : List TenantState) → IsSound b → IsAt b.lines i l → IsLookedAt H whom b.clock l.session.stage b.tenants us l m → IsOneMore i b (put_with b i m us)
one-more H whom b i l m us s at is =
    let less = looked-unread H whom b.clock b.tenants us l m l.session.stage is in
    let sizes = work-set b.lines i l m at in
    record {
      going = looked-going H whom b i l m us l.session.stage s at refl is;
      work = omega (arith, less, sizes);
      others = others-put b i l m (set b.lines i m) at (looked-number H whom b.clock b.tenants us l m l.session.stage is) refl;
    }

pub waked-more : (H : Type 0) → H → (whom : Whom) (a b : BrokerState) (i : ℕ) (l m : Line) (us : List TenantState) → AreWaked whom a b i → IsAt b.lines i l → IsLookedAt H whom b.clock l.session.stage b.tenants us l m → AreWaked whom a (put_with b i m us) (suc i)
waked-more H honest whom a b i l m us v at is =
    let c = put_with b i m us in
    let over : ℕ → Wait → Type 0 = IsPassedOver whom a.clock in
    let q = looked-waked H honest whom b i l m us l.session.stage v.waked.going.sound at refl is in
    let clock = v.waked.going.clock in
    let number = sym (looked-number H whom b.clock b.tenants us l m l.session.stage is) in
    let left = λ (u : AreUnready over a). looked-rest H honest whom b l m us l.session.stage refl is (subst (λ n. IsUnready (IsPassedOver whom n) b l.number l.session.stage) (sym clock) (all-at (λ (k : Line). IsUnready over b k.number k.session.stage) b.lines i l at (v.over u))) in
    record {
      waked = waked-then whom a b c v.waked q;
      looked = take-set (λ (k : Line). IsUnready (IsLookedFor whom a.clock) c k.number k.session.stage) b.lines i l m at
          (all-same (IsLookedFor whom a.clock) b c (take i b.lines) refl q.kept v.looked)
          (subst (λ n. IsUnready (IsLookedFor whom a.clock) c n m.session.stage) number (unready-same (IsLookedFor whom a.clock) b c l.number m.session.stage refl q.kept (subst (λ n. IsUnready (IsLookedFor whom n) b l.number m.session.stage) clock (looked-unready H honest whom b l m us l.session.stage refl is))));
      rest = λ u. take-set (λ (k : Line). IsUnready AnyWait c k.number k.session.stage) b.lines i l m at
          (all-same AnyWait b c (take i b.lines) refl q.kept (v.rest u))
          (subst (λ n. IsUnready AnyWait c n m.session.stage) number (unready-same AnyWait b c l.number m.session.stage refl q.kept (left u)));
      over = λ u. all-set (λ (k : Line). IsUnready over c k.number k.session.stage) b.lines i m (all-same over b c b.lines refl q.kept (v.over u)) (subst (λ n. IsUnready over c n m.session.stage) number (unready-same over b c l.number m.session.stage refl q.kept (weaken AnyWait over b (λ t w h. tt) l.number m.session.stage (left u))));
    }

-- all were looked at
pub record AllWaked (whom : Whom) (a b : BrokerState) : Type 0 where
  pub looked : AreUnready (IsLookedFor whom a.clock) b
  pub rest : AreUnready (IsPassedOver whom a.clock) a → AreUnready AnyWait b

all-lines : (a b : BrokerState) (i : ℕ) → numbers b ≡ numbers a → length a.lines ≤ i → take i b.lines ≡ b.lines
all-lines a b i same le = take_all i b.lines (let n = length-numbers a b same in omega (arith, n, le))

pub waked-all : (whom : Whom) (a b : BrokerState) (i : ℕ) → AreWaked whom a b i → length a.lines ≤ i → AllWaked whom a b
waked-all whom a b i v le =
    let all = all-lines a b i v.waked.going.numbers le in
    record {
      looked = subst (AllByRecursion (λ (l : Line). IsUnready (IsLookedFor whom a.clock) b l.number l.session.stage)) all v.looked;
      rest = λ u. subst (AllByRecursion (λ (l : Line). IsUnready AnyWait b l.number l.session.stage)) all (v.rest u);
    }

-- where no wait is looked for, none that is looked for is ready, and one that is not ready if it is passed over is not ready
passed-looked : (whom : Whom) (b : BrokerState) (n : ℕ) (st : Stage) → IsPassed whom b.clock st → IsUnready (IsLookedFor whom b.clock) b n st
passed-looked whom b n (Greets h) p = tt
passed-looked whom b n (BoundTo t None) p = tt
passed-looked whom b n (BoundTo t (Some w)) p = λ looked. let no : true ≡ false = sym looked ∙ p in absurd (cc)

pub passed-looked-all : (whom : Whom) (b : BrokerState) → ArePassed whom b → AreUnready (IsLookedFor whom b.clock) b
passed-looked-all whom b p = all-map (λ (l : Line). IsPassed whom b.clock l.session.stage) (λ (l : Line). IsUnready (IsLookedFor whom b.clock) b l.number l.session.stage) (λ l. passed-looked whom b l.number l.session.stage) b.lines p

passed-rest : (whom : Whom) (b : BrokerState) (ls : List Line) → AllByRecursion (λ (l : Line). IsPassed whom b.clock l.session.stage) ls → AllByRecursion (λ (l : Line). IsUnready (IsPassedOver whom b.clock) b l.number l.session.stage) ls → AllByRecursion (λ (l : Line). IsUnready AnyWait b l.number l.session.stage) ls
passed-rest whom b [] p u = tt
passed-rest whom b (l ∷ ls) p u = (one l.session.stage p.0 u.0, passed-rest whom b ls p.1 u.1)
  where
    one : (st : Stage) → IsPassed whom b.clock st → IsUnready (IsPassedOver whom b.clock) b l.number st → IsUnready AnyWait b l.number st
    one (Greets h) p u = tt
    one (BoundTo t None) p u = tt
    one (BoundTo t (Some w)) p u = λ any. u p

pub passed-rest-all : (whom : Whom) (b : BrokerState) → ArePassed whom b → AreUnready (IsPassedOver whom b.clock) b → AreUnready AnyWait b
passed-rest-all whom b p u = passed-rest whom b b.lines p u
