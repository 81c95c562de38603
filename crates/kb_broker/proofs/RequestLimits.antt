-- Each connection has the setup's limit of a request, also where one of them is another.
use Rattle.std.proofs.Common.{◌≡◌, ◌++◌, ℕ, zero, suc, List, [], ◌∷◌, Some, None, Result, Ok, Err, OnOk, OnErr, inl, inr, set, refl, ap, ◌∙◌}
use Rattle.std.specs.List.{remove}
use Rattle.kb_tenant_api.specs.Hosted.{TenantState}
use Rattle.kb_isolation_spec.specs.declared.shut.Shut.TheVariants as causes
use Rattle.kb_isolation_spec.specs.declared.whom.Whom.{Whom}
use Rattle.kb_isolation_spec.specs.Session.{Stage, Greets, BoundTo, fed, shut_down}
use Rattle.kb_isolation_spec.specs.Machine.{Line}
use Rattle.kb_isolation_spec.specs.RequestLimits.{HaveLimit}
use Rattle.kb_isolation_spec.proofs.RequestLimits.{limit-fed}
use Rattle.kb_isolation_spec.proofs.Sets.{IsAt, all-at, all-push, all-set, no-at, tail-at}
use Rattle.kb_connection.specs.View.{with_session}
use Rattle.kb_broker.specs.Places.{IsLookedAt}

-- 1. One of them

-- on which a piece came
pub limit-kept : {E : Type 0} (result : Result (Unit {0}) E) (piece : List ℕ) (l m : Line) → OnOk result (m ≡ with_session l (fed piece l.session))
    → OnErr result (m ≡ with_session l (shut_down causes.Memory l.session)) → m.session.limit ≡ l.session.limit
limit-kept (Ok u) piece l m ok err = ap (λ (x : Line). x.session.limit) ok ∙ limit-fed piece l.session
limit-kept (Err fault) piece l m ok err = ap (λ (x : Line). x.session.limit) err

-- that was looked at again
pub limit-looked : (H : Type 0) (whom : Whom) (clock : ℕ) (old new : List TenantState) (l m : Line) (st : Stage) → IsLookedAt H whom clock st old new l m → m.session.limit ≡ l.session.limit
limit-looked H whom clock old new l m (Greets h) p = ap (λ (x : Line). x.session.limit) p.1
limit-looked H whom clock old new l m (BoundTo t None) p = ap (λ (x : Line). x.session.limit) p.1
limit-looked H whom clock old new l m (BoundTo t (Some w)) (inl p) = ap (λ (x : Line). x.session.limit) p.1.1
limit-looked H whom clock old new l m (BoundTo t (Some w)) (inr p) = p.1.limit

-- 2. All of them

-- the one at a place is another
pub limit-put : (limit : ℕ) (ls : List Line) (i : ℕ) (l m : Line) → IsAt ls i l → m.session.limit ≡ l.session.limit → HaveLimit limit ls → HaveLimit limit (set ls i m)
limit-put limit ls i l m at same h = all-set (λ k. k.session.limit ≡ limit) ls i m h (same ∙ all-at (λ k. k.session.limit ≡ limit) ls i l at h)

-- one more comes
pub limit-added : (limit : ℕ) (ls : List Line) (l : Line) → l.session.limit ≡ limit → HaveLimit limit ls → HaveLimit limit (ls ++ l ∷ [])
limit-added limit ls l is h = all-push (λ k. k.session.limit ≡ limit) ls l h is

-- one goes
pub limit-removed : (limit : ℕ) (ls : List Line) (i : ℕ) (l : Line) → IsAt ls i l → HaveLimit limit ls → HaveLimit limit (remove ls i)
limit-removed limit [] i l at h = no-at i l at
limit-removed limit (k ∷ ls) zero l at h = h.1
limit-removed limit (k ∷ ls) (suc i) l at h = (h.0, limit-removed limit ls i l (tail-at k ls i l at) h.1)
