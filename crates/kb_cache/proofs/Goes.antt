-- What a loss of power may leave after one call and another.
use Rattle.std.proofs.Common.{ℕ, inl, inr, arith, sym, subst, ap, ⊎_elim}
use Rattle.std.specs.Prelude.{unwrap_or}
use Rattle.std.specs.FinMap.{get}
use Rattle.kb_store.specs.Disk.{Disk, Files, Keeps, len_of}
use Rattle.kb_store.specs.Loss.{Loss, Goes, Same, Tears}
use Rattle.kb_store.specs.LossLaws.{torn_not}

-- two steps are one where that holds of what each of them changes
pub goes_on : (s t u : Files → Files → Type 0) (a b c : Loss) → ((x y : Files) → s x y → u x y) → ((x y z : Files) → s x y → t y z → u x z)
    → Goes s a b → Goes t b c → Goes u a c
goes_on s t u a b c first both p q = record {
  later = omega (arith, p.later, q.later);
  now = λ found h. two found (q.now found h);
  between = λ m found le h.
      ⊎_elim
      (λ (x : b.left_since m found).
      ⊎_elim
      (λ (w : a.left_since m found). inl w)
      (λ (w : (before : Files) × a.leaves before × s before found). inr (w.0, w.1, first w.0 found w.2))
      (p.between m found le x))
      (λ (y : (before : Files) × b.leaves before × t before found). inr (two found y))
      (q.between m found (omega (arith, le, p.later)) h);
  keeps = λ m found le h. q.keeps m found (omega (arith, le, p.later)) (p.keeps m found le h);
}
  where
    two : (found : Files) → (before : Files) × b.leaves before × t before found → (older : Files) × a.leaves older × u older found
    two found y = let x = p.now y.0 y.1 in (x.0, x.1, both x.0 y.0 found x.2 y.2)

-- a file is added to after a look that changes nothing
pub looked_torn : (d e : Disk) (a b c : Loss) (file : ℕ) → Keeps d e → Goes Same a b → Goes (Tears file (len_of e file)) b c → Goes (Tears file (len_of d file)) a c
looked_torn d e a b c file k p q =
    let step = Tears file (len_of d file) in
    goes_on Same step step a b c
    (λ x y is. subst (λ f. step x f) (sym is) (torn_not file (len_of d file) x))
    (λ x y z is torn. subst (λ f. step f z) is torn)
    p (subst (λ n. Goes (Tears file n) b c) (ap (λ t. unwrap_or (get t file) 0) k.table) q)
