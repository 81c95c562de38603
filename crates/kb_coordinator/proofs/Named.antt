-- The number that an id names.
use Rattle.std.proofs.Common.{◌≡◌, ◌∙◌, ◌<◌, ◌^◌, ◌&&◌, ℕ, zero, suc, Bool, true, false, List, drop, refl, sym, ap, arith, bytes_eq, nat_lt, if◌then◌else◌}
use Rattle.std.specs.Str.Parse.{digits_value}
use Rattle.std.specs.Cmp.Lexicographic.{bytes_decides, nat_list_eq_equiv}
use Rattle.std.proofs.lemmas.Fmt.{decimal_is_IsNumeral}
use Rattle.std.proofs.lemmas.Bool.Decides.{nat_tests}
use Rattle.kb_groups.specs.MemberId.{member_id}
use Rattle.kb_coordinator.specs.Requests.{named}

pub named_is : (id : List ℕ) (n : ℕ) → n < 2 ^ 64 → id ≡ member_id n → n ≡ named id
unfolding named
named_is id n fits is =
    let v : digits_value 10 (drop 2 id) ≡ n = ap (λ x. digits_value 10 (drop 2 x)) is ∙ (decimal_is_IsNumeral n fits).1 in
    let same : bytes_eq id (member_id n) ≡ true = ap (λ x. bytes_eq x (member_id n)) is ∙ nat_list_eq_equiv.refl (member_id n) in
    let small : nat_lt n (2 ^ 64) ≡ true = grind (arith, nat_tests, fits) in
    sym (ap (λ x. if bytes_eq id (member_id x) && nat_lt x (2 ^ 64) then x else 0) v ∙ (λ k. if same k && small k then n else 0))

none_above : (v : ℕ) → (0 < v → ⊥) → 0 ≡ v
none_above zero h = refl
none_above (suc v) h = absurd (h (omega arith))

pub named_none : (id : List ℕ) → ((n : ℕ) → 0 < n → n < 2 ^ 64 → id ≡ member_id n → ⊥) → 0 ≡ named id
unfolding named
named_none id stranger = by (bytes_eq id (member_id (digits_value 10 (drop 2 id)))) (nat_lt (digits_value 10 (drop 2 id)) (2 ^ 64)) refl refl
  where
    by : (a b : Bool) → bytes_eq id (member_id (digits_value 10 (drop 2 id))) ≡ a → nat_lt (digits_value 10 (drop 2 id)) (2 ^ 64) ≡ b → 0 ≡ (if a && b then digits_value 10 (drop 2 id) else 0)
    by false b p q = refl
    by true false p q = refl
    by true true p q = none_above _ (λ above. stranger _ above (grind (arith, nat_tests, q)) ((bytes_decides _ _).0 p))
