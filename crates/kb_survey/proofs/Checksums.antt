-- A test that passes at one of the numbers from one on, below another.
use Rattle.std.proofs.Common.{◌≡◌, ◌∙◌, ◌<◌, ◌≤◌, ◌+◌, ◌-◌, ◌||◌, ℕ, Bool, true, false, suc, ap, arith}
use Rattle.std.specs.List.{list_any, range_with_len}

module _ (p : ℕ → Bool) (n len : ℕ) where
  one_fewer : n < len → len - n ≡ suc (len - (n + 1))
  one_fewer h = omega arith

  pub passes_here : n < len → p n ≡ true → list_any p (range_with_len n (len - n)) ≡ true
  passes_here h e =
      let rest : Bool = list_any p (range_with_len (n + 1) (len - (n + 1))) in
      ap (λ m. list_any p (range_with_len n m)) (one_fewer h) ∙ ap (λ b. b || rest) e

  pub goes_on : n < len → p n ≡ false → list_any p (range_with_len n (len - n)) ≡ list_any p (range_with_len (n + 1) (len - (n + 1)))
  goes_on h e =
      let rest : Bool = list_any p (range_with_len (n + 1) (len - (n + 1))) in
      ap (λ m. list_any p (range_with_len n m)) (one_fewer h) ∙ ap (λ b. b || rest) e

  pub none_left : len ≤ n → list_any p (range_with_len n (len - n)) ≡ false
  none_left h =
      let none : len - n ≡ 0 = omega arith in
      ap (λ m. list_any p (range_with_len n m)) none
