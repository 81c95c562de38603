-- A count that rose by one refusal.
use Rattle.std.proofs.Common.{◌≡◌, ◌+◌, ℕ, Bool, true, false, refl, arith}
use Rattle.std.specs.Prelude.{◌≤◌, cond, nat_lt}
use Rattle.std.proofs.lemmas.Bool.Decides.{nat_tests}
use Rattle.kb_tenant_state.specs.Counts.{END, IsCalm, counted_once}

-- it is not less
pub once-grows : (x y : ℕ) → y ≡ counted_once x → x ≤ y
once-grows x y once = by (nat_lt x END) once
  where
    by : (b : Bool) → y ≡ cond b (x + 1) x → x ≤ y
    by true is = omega (arith, is)
    by false is = omega (arith, is)

-- and something was refused
pub once-loud : (x y : ℕ) → y ≡ counted_once x → IsCalm x y → ⊥
once-loud x y once calm = by (nat_lt x END) refl once
  where
    by : (b : Bool) → nat_lt x END ≡ b → y ≡ cond b (x + 1) x → ⊥
    by true e is = let same = calm.same in omega (arith, is, same)
    by false e is = let below = calm.below in absurd (grind (arith, nat_tests, e, below))
