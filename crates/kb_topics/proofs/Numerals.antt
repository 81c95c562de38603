-- What parsing a text of digits gives.
use Rattle.std.proofs.Common.{◌≡◌, ◌≤◌, ◌<◌, ◌^◌, ℕ, Bool, true, false, cond, List, length, Some, None, Result, Ok, Err, ap, refl, arith, rules}
use Rattle.std.specs.Prelude.{ℤ, pos, nat_lt}
use Rattle.std.specs.List.{list_all}
use Rattle.std.specs.Char.{is_ascii_digit}
use Rattle.std.specs.Int.{w64}
use Rattle.std.specs.Result.{OkIff, result_ok}
use Rattle.std.specs.Str.Parse.{digits_value, ParsesSigned}
use Rattle.std.proofs.lemmas.Bool.{ltb-true, lt-ltb}
use Rattle.std.proofs.lemmas.Str.Parse.{IsNumeralModel, numerals_by_value, parse_signed_digits}
use Rattle.kb_topics.specs.Config.{number_in}

own : IsNumeralModel (λ ds. list_all is_ascii_digit ds ≡ true) (digits_value 10)
own = numerals_by_value _ (search rules)

told : {E : Type 0} (v n : ℕ) (r : Result ℤ E) (b : Bool) → OkIff r ((0 < n) × (v < 2 ^ 63)) (pos v) → 1 ≤ n → nat_lt v (2 ^ 63) ≡ b → result_ok r ≡ cond b (Some (pos v)) None
told v n (Ok x) true h some t = ap Some h.1
told v n (Ok x) false h some t = absurd (grind (arith, t, lt-ltb v (2 ^ 63) h.0.1))
told v n (Err e) true h some t = absurd (h (some, ltb-true v (2 ^ 63) t))
told v n (Err e) false h some t = refl

pub number_parsed : {E : Type 0} (text : List ℕ) (r : Result ℤ E) → ParsesSigned w64 10 text r → list_all is_ascii_digit text ≡ true → 1 ≤ length text → result_ok r ≡ number_in text
number_parsed text r h digits some = told (digits_value 10 text) (length text) r (nat_lt (digits_value 10 text) (2 ^ 63)) (parse_signed_digits own w64 text r h digits) some refl
