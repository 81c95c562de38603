-- Bounds on numbers in groups of seven bits.
use Rattle.std.proofs.Common.{◌≡◌, ℕ, ◌+◌, ◌-◌, ◌*◌, ◌%◌, ◌^◌, ◌<◌, ◌≤◌, zero, suc, arith, refl, sym, ap, ◌∙◌}
use Rattle.std.proofs.Common.{◌∷◌, ltb, false, ◌/◌}
use Rattle.std.proofs.lemmas.Bool.{le-ltb}
use Rattle.kb_wire.specs.Varint.{written_groups}
use Rattle.std.proofs.Math.Nat.{pow-suc, pow-le-pow_right}

pub one_group : (limit b : ℕ) → 0 < limit → b < 128 → b < 128 ^ limit
one_group limit b some lt =
    let top : 128 ^ 1 ≡ 128 = refl in
    let base : 0 < 128 = omega arith in
    let up : 128 ^ 1 ≤ 128 ^ limit = pow-le-pow_right base {i = 1} {j = limit} some in
    omega arith

pub one_more : (limit b high : ℕ) → 0 < limit → high < 128 ^ (limit - 1) → b % 128 + 128 * high < 128 ^ limit
one_more limit b high some lt =
    let k : suc (limit - 1) ≡ limit = omega arith in
    let power : 128 ^ limit ≡ 128 ^ (limit - 1) * 128 = ap (λ (e : ℕ). 128 ^ e) (sym k) ∙ pow-suc 128 (limit - 1) in
    omega arith

pub ten_at_most : (limit high : ℕ) → limit ≤ 10 → 0 < limit → high < 128 ^ (limit - 1) → high < 2 ^ 64
ten_at_most limit high le some lt =
    let nine : 128 ^ 9 ≡ 2 ^ 63 = refl in
    let base : 0 < 128 = omega arith in
    let few : limit - 1 ≤ 9 = omega arith in
    let up : 128 ^ (limit - 1) ≤ 128 ^ 9 = pow-le-pow_right base {i = limit - 1} {j = 9} few in
    omega arith

pub written_step : (limit n : ℕ) → 0 < limit → 128 ≤ n → written_groups limit n ≡ (n % 128 + 128) ∷ written_groups (limit - 1) (n / 128)
unfolding written_groups
written_step zero n some le = absurd (omega arith)
written_step (suc k) n some le =
    let test : ltb n 128 ≡ false = le-ltb n 128 le in
    let one : suc k - 1 ≡ k = omega arith in
    rw (test, one) refl
