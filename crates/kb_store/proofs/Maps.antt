-- What a finite map under numbers has after a change, at the key and at others.
use Rattle.std.proofs.Common.{◌≡◌, ◌≢◌, ◌∙◌, ap, ℕ, true, false, cond, Some, None, eq-eqb, arith}
use Rattle.std.specs.Ordering.{nat_cmp, eq_by_cmp}
use Rattle.std.specs.Cmp.{nat_cmp_total, unsigned_tied}
use Rattle.std.specs.FinMap.{FinMap, get, insert, remove, get-insert, get-remove}

module _ {X : Type 0} (m : FinMap nat_cmp X) (k : ℕ) where
  tied : (q : ℕ) → q ≡ k → eq_by_cmp nat_cmp q k ≡ true
  tied q e = unsigned_tied q k ∙ eq-eqb q k e

  apart : (q : ℕ) → q ≢ k → eq_by_cmp nat_cmp q k ≡ false
  apart q ne = unsigned_tied q k ∙ grind (arith, ne)

  pub get_inserted : (v : X) → get (insert m k v) k ≡ Some v
  get_inserted v = get-insert nat_cmp_total m k v k ∙ ap (λ b. cond b (Some v) (get m k)) (tied k (λ i. k))

  pub get_other : (v : X) (q : ℕ) → q ≢ k → get (insert m k v) q ≡ get m q
  get_other v q ne = get-insert nat_cmp_total m k v q ∙ ap (λ b. cond b (Some v) (get m q)) (apart q ne)

  pub get_removed : get (remove m k) k ≡ None
  get_removed = get-remove nat_cmp_total m k k ∙ ap (λ b. cond b None (get m k)) (tied k (λ i. k))

  pub get_kept : (q : ℕ) → q ≢ k → get (remove m k) q ≡ get m q
  get_kept q ne = get-remove nat_cmp_total m k q ∙ ap (λ b. cond b None (get m q)) (apart q ne)
