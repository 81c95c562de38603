-- Keys that tie are the same.
use Rattle.std.proofs.Common.{◌≡◌, true, refl, sym}
use Rattle.std.specs.Prelude.{List, Contains}
use Rattle.std.specs.Bool.{Decides}
use Rattle.std.specs.Cmp.{eq_by_cmp_equiv, IsTotalOrder}
use Rattle.std.specs.Cmp.Lexicographic.{bytes_decides}
use Rattle.std.specs.List.{list_any}
use Rattle.std.proofs.lemmas.Bool.{false≢true}
use Rattle.std.proofs.lemmas.Bool.Decides.{Decides-like, Decides-and, Decides-eqb, Decides-at}
use Rattle.std.proofs.lemmas.Map.Made.{is_member-Decides}
use Rattle.kb_waits.specs.Waiters.{same_key}
use Rattle.kb_waits.specs.declared.key.WaitKey.{WaitKey}
use Rattle.kb_waits.specs.declared.key.WaitKey.TheVariants.{Partition, Group, Tenant}
use Rattle.kb_waits.specs.contracts.key.WaitKeyPartialEq.TheImpl as key_eq
use Rattle.kb_waits.specs.contracts.key.WaitKeyOrd.TheImpl as key_ord
use Rattle.kb_waits.specs.contracts.key.WaitKeyOrd.TheImpl.Laws.{total-law, matches_eq-law}

-- `==` decides whether keys are the same
decides : (a b : WaitKey) → Decides ((key_eq.ghosts).eq a b) (a ≡ b)
decides (Partition t i p) (Partition u j q) =
    Decides-like {P = (t ≡ u) × ((i ≡ j) × (p ≡ q))} _
    (λ h. λ k. Partition (h.0 k) (h.1.0 k) (h.1.1 k))
    (λ e. (cc, (cc, cc)))
    (Decides-and _ _ (Decides-eqb t u) (Decides-and _ _ (Decides-eqb i j) (Decides-eqb p q)))
decides (Partition t i p) (Group u g) = (λ e. absurd (false≢true e), λ e. cc)
decides (Partition t i p) (Tenant u) = (λ e. absurd (false≢true e), λ e. cc)
decides (Group t g) (Partition u j q) = (λ e. absurd (false≢true e), λ e. cc)
decides (Group t g) (Group u h) =
    Decides-like {P = (t ≡ u) × (g ≡ h)} _
    (λ k. λ i. Group (k.0 i) (k.1 i))
    (λ e. (cc, cc))
    (Decides-and _ _ (Decides-eqb t u) (bytes_decides g h))
decides (Group t g) (Tenant u) = (λ e. absurd (false≢true e), λ e. cc)
decides (Tenant t) (Partition u j q) = (λ e. absurd (false≢true e), λ e. cc)
decides (Tenant t) (Group u h) = (λ e. absurd (false≢true e), λ e. cc)
decides (Tenant t) (Tenant u) = Decides-like {P = t ≡ u} _ (λ h. λ k. Tenant (h k)) (λ e. cc) (Decides-eqb t u)

pub same_key-decides : (a b : WaitKey) → Decides (same_key a b) (a ≡ b)
same_key-decides a b = Decides-at _ _ (sym (matches_eq-law a b)) (decides a b)

pub same_key-itself : (k : WaitKey) → same_key k k ≡ true
same_key-itself k = (same_key-decides k k).1 refl

pub key_total : IsTotalOrder (key_ord.ghosts).cmp
key_total = total-law

-- whether a key is one of a list
pub any_key-decides : (k : WaitKey) (ks : List WaitKey) → Decides (list_any (λ a. same_key a k) ks) (Contains ks k)
any_key-decides k ks = Decides-at _ _ (λ i. list_any (λ a. (eq_by_cmp_equiv key_total).symm a k i) ks) (is_member-Decides same_key-decides ks k)
