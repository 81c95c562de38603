-- Whom the groups of a tenant answered.
use Rattle.std.proofs.Common.{◌≡◌, ◌∙◌, ℕ, suc, Bool, true, false, ◌&&◌, List, [], ◌∷◌, ◌++◌, map, Some, nat_eq, if◌then◌else◌, inl, inr, refl, sym, ap, subst, arith}
use Rattle.std.specs.Prelude.{Contains, Result, Ok, Err, OnOk, is_ok, not, ◌⊎◌}
use Rattle.std.proofs.lemmas.List.Elements.{Contains-append_right}
use Rattle.std.proofs.lemmas.Bool.Decides.{nat_tests}
use Rattle.kb_coordinator.specs.Calls.{reply_among}
use Rattle.kb_coordinator.specs.Groups.{Groups}
use Rattle.kb_groups.specs.declared.reply.Release.{Release}
use Rattle.kb_tenant.specs.Replies.{Silent}
use Rattle.kb_tenant_api.specs.Hosted.{Kept, TenantState, kept_of}
use Rattle.kb_tenant_api.specs.Turns.{IsTurn}
use Rattle.kb_tenant_api.specs.Replies.{told, told_to}
use Rattle.kb_tenant.proofs.LogMoves.{same_or_not}
use Rattle.kb_tenants.specs.Tenants.{AreQuietBut, IsQuietBut, answered_connections, connection_of}

same_number : (a b : ℕ) → nat_eq a b ≡ true → a ≡ b
same_number a b h = grind (arith, nat_tests)

-- a request on any other connection is told nothing
pub untold : (k : ℕ) (gs : Groups) → (Contains (answered_connections gs) k → ⊥) → told_to k gs ≡ Silent
unfolding reply_among
untold k gs apart = by gs.released apart
  where
    by : (rs : List Release) → (Contains (map connection_of rs) k → ⊥) → told (reply_among k rs) ≡ Silent
    by [] apart = refl
    by (r ∷ rs) apart = at (nat_eq r.connection k) refl (by rs (λ c. apart (suc c.0, (let h = c.1 in omega (arith, h)), c.2)))
      where
        at : (b : Bool) → nat_eq r.connection k ≡ b → told (reply_among k rs) ≡ Silent → told (if b then Some r.reply else reply_among k rs) ≡ Silent
        at true e rest = absurd (apart (0, omega arith, same_number r.connection k e))
        at false e rest = rest

-- ---- whom a moment answers

-- nothing has changed
pub quiet_same : (ns : List ℕ) (k l : Kept) → l ≡ k → IsQuietBut ns k l
quiet_same ns k l same = record {
  world = ap (λ (x : Kept). x.world) same;
  told = λ n apart silent. ap (λ (x : Kept). told_to n x.groups) same ∙ silent;
}

-- more connections are listed
pub quiet_longer : (ns ms : List ℕ) (k l : Kept) → ((n : ℕ) → Contains ns n → Contains ms n) → IsQuietBut ns k l → IsQuietBut ms k l
quiet_longer ns ms k l longer q = record { world = q.world; told = λ n apart. q.told n (λ c. apart (longer n c)) }

pub quiet_then : (ns : List ℕ) (k l m : Kept) → IsQuietBut ns k l → IsQuietBut ns l m → IsQuietBut ns k m
quiet_then ns k l m p q = record { world = q.world ∙ p.world; told = λ n apart silent. q.told n apart (p.told n apart silent) }

-- the groups had their moment, and whom they answered is listed
pub quiet_listed : (ns ms : List ℕ) (k l : Kept) → l.world ≡ k.world → ms ≡ ns ++ answered_connections l.groups → IsQuietBut ms k l
quiet_listed ns ms k l world listed = record {
  world = world;
  told = λ n apart silent. untold n l.groups (λ c. apart (subst (λ xs. Contains xs n) (sym listed) (Contains-append_right ns (answered_connections l.groups) n c)));
}

-- a call for a tenant leaves the others as they were
pub quiet_turn : (H : Type 0) → H → (t : ℕ) (ns : List ℕ) (old new : List TenantState) → IsTurn t H old new → IsQuietBut ns (kept_of old t) (kept_of new t) → AreQuietBut ns old new
quiet_turn H honest t ns old new turn own u = by (same_or_not u t)
  where
    by : (u ≡ t) ⊎ (u ≡ t → ⊥) → IsQuietBut ns (kept_of old u) (kept_of new u)
    by (inl is) = subst (λ v. IsQuietBut ns (kept_of old v) (kept_of new v)) (sym is) own
    by (inr ne) = quiet_same ns (kept_of old u) (kept_of new u) (turn.others honest u ne)

-- the list could be kept
pub if_listed : {A E : Type 0} (r : Result A E) (b : Bool) (P : Type 0) → b ≡ is_ok r → b ≡ true → OnOk r P → P
if_listed (Ok x) b P e t h = h
if_listed (Err x) b P e t h = let no : false ≡ true = sym e ∙ t in absurd cc

-- both hold
pub both : (a b : Bool) → (a && b) ≡ true → (a ≡ true) × (b ≡ true)
both true b e = (refl, e)
both false b e = absurd cc

-- one of them does not
pub not_both : (a b : Bool) → (a && b) ≡ false → (a ≡ false) ⊎ (b ≡ false)
not_both true b e = inr e
not_both false b e = inl refl

pub not_so : (b : Bool) → not b ≡ true → b ≡ false
not_so true e = absurd cc
not_so false e = refl
