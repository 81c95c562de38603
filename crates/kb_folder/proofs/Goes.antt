-- What a loss of power may leave after several calls.
use Rattle.std.proofs.Common.{◌≡◌, ◌∙◌, ◌≤◌, ◌+◌, ◌-◌, ◌++◌, ℕ, List, length, take, append_assoc, inl, inr, arith, sym, subst, ap, length-take, ⊎_elim}
use Rattle.std.proofs.Math.Seq.{take-append-add}
use Rattle.kb_store.specs.Disk.{Files, Table}
use Rattle.kb_store.specs.Loss.{Loss, Goes, Same, Tears, Clears, found_of}
use Rattle.kb_store.specs.LossLaws.{torn_not, cleared_not, stays_goes}

-- a step after one of the same kind, where both are one
pub goes_on : (s t : Files → Files → Type 0) (a b c : Loss) → ((x y z : Files) → s x y → t y z → s x z) → Goes s a b → Goes t b c → Goes s a c
goes_on s t a b c both p q = record {
  later = omega (arith, p.later, q.later);
  now = λ found h. two found (q.now found h);
  between = λ m found le h.
      ⊎_elim
      (λ (x : b.left_since m found). p.between m found le x)
      (λ (y : (before : Files) × b.leaves before × t before found). inr (two found y))
      (q.between m found (omega (arith, le, p.later)) h);
  keeps = λ m found le h. q.keeps m found (omega (arith, le, p.later)) (p.keeps m found le h);
}
  where
    two : (found : Files) → (before : Files) × b.leaves before × t before found → (older : Files) × a.leaves older × s older found
    two found y = let x = p.now y.0 y.1 in (x.0, x.1, both x.0 y.0 found x.2 y.2)

-- what holds of each step holds of both ways
pub goes_as : (s t : Files → Files → Type 0) (a b : Loss) → ((x y : Files) → s x y → t x y) → Goes s a b → Goes t a b
goes_as s t a b both p = record {
  later = p.later;
  now = λ found h. let x = p.now found h in (x.0, x.1, both x.0 found x.2);
  between = λ m found le h.
      ⊎_elim
      (λ (w : a.left_since m found). inl w)
      (λ (w : (before : Files) × a.leaves before × s before found). inr (w.0, w.1, both w.0 found w.2))
      (p.between m found le h);
  keeps = p.keeps;
}

pub goes_same : (a b c : Loss) → Goes Same a b → Goes Same b c → Goes Same a c
goes_same a b c p q = goes_on Same Same a b c (λ x y z e f. f ∙ e) p q

-- ---- a file that is torn twice is torn where it was torn first

take_front : (n : ℕ) (b tail : List ℕ) → length b ≤ n → take n (b ++ tail) ≡ b ++ take (n - length b) tail
take_front n b tail le =
    let e : n ≡ length b + (n - length b) = omega (arith, le) in
    ap (λ k. take k (b ++ tail)) e ∙ take-append-add b tail (n - length b)

pub torn_twice : (file keep more : ℕ) → keep ≤ more → (x y z : Files) → Tears file keep x y → Tears file more y z → Tears file keep x z
torn_twice file keep more le x y z s t =
    let front = take keep (found_of x file) in
    let short : length front ≤ more = omega (arith, le, length-take keep (found_of x file)) in
    record {
      others = λ o ne. t.others o ne ∙ s.others o ne;
      there = λ h. t.there (s.there h);
      tail = take (more - length front) s.tail ++ t.tail;
      bytes = t.bytes ∙ ap (λ w. take more w ++ t.tail) s.bytes ∙ ap (λ w. w ++ t.tail) (take_front more front s.tail short)
          ∙ append_assoc front (take (more - length front) s.tail) t.tail;
    }

pub goes_torn : (file keep more : ℕ) (a b c : Loss) → keep ≤ more → Goes (Tears file keep) a b → Goes (Tears file more) b c → Goes (Tears file keep) a c
goes_torn file keep more a b c le p q = goes_on (Tears file keep) (Tears file more) a b c (torn_twice file keep more le) p q

pub torn_none : (file keep : ℕ) (a : Loss) → Goes (Tears file keep) a a
torn_none file keep a = stays_goes (Tears file keep) (torn_not file keep) a

-- ---- a sync

pub clears_same : (table : Table) (a b : Loss) → Goes Same a b → Goes (Clears table) a b
clears_same table a b p = goes_as Same (Clears table) a b (λ x y e. subst (Clears table x) (sym e) (cleared_not table x)) p
