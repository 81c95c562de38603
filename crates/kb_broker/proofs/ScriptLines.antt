-- Lines of a script: words, numbers, and where a line ends.
use Rattle.std.proofs.Common.{◌≡◌, ℕ, suc, ◌+◌, ◌*◌, ◌<◌, ◌≤◌, ◌^◌, ◌&&◌, Bool, not, true, false, cond, nat_lt, List, [], ◌∷◌, length, drop, get_or, refl, ap, arith, Some, None, drop-cons}
use Rattle.std.proofs.lemmas.List.Sums.{prefix_len-le-length}
use Rattle.std.proofs.lemmas.Grind.{common_steps}
use Rattle.std.specs.List.{position, position_or_len}
use Rattle.std.specs.Str.{all_ascii_digits}
use Rattle.std.specs.Str.Parse.{digits_value, digits_value_after}
use Rattle.std.specs.Char.{digit_value}
use Rattle.kb_broker.specs.Script.{number}

at_some : (b : Bool) (n i : ℕ) → cond b (Some n) None ≡ Some i → n ≡ i
at_some true n i e = cc
at_some false n i e = cc

at_none : (a n : ℕ) (b : Bool) → nat_lt a n ≡ b → cond b (Some a) None ≡ None → n ≤ a
at_none a n true t e = cc
at_none a n false t e = grind arith

pub position-some : (p : ℕ → Bool) (xs : List ℕ) (i : ℕ) → position p xs ≡ Some i → position_or_len p xs ≡ i
position-some p xs i e = at_some (nat_lt (position_or_len p xs) (length xs)) (position_or_len p xs) i e

pub position-none : (p : ℕ → Bool) (xs : List ℕ) → position p xs ≡ None → position_or_len p xs ≡ length xs
position-none p xs e = omega (arith, at_none (position_or_len p xs) (length xs) (nat_lt (position_or_len p xs) (length xs)) refl e, prefix_len-le-length (λ x. not (p x)) xs)

-- digits only make a number greater
pub value-grows : (n : ℕ) (ds : List ℕ) → n ≤ digits_value_after 10 n ds
value-grows n [] = omega arith
value-grows n (c ∷ cs) = omega (arith, value-grows (n * 10 + digit_value c) cs)

-- the next digit
pub value-next : (text : List ℕ) (i v d : ℕ) → i < length text → digits_value_after 10 v (drop i text) ≡ d → v * 10 + digit_value (get_or text i 0) ≤ d
value-next text i v d lt e =
    let next : digits_value_after 10 v (drop i text) ≡ digits_value_after 10 (v * 10 + digit_value (get_or text i 0)) (drop (suc i) text) = ap (digits_value_after 10 v) (drop-cons text i 0 lt) in
    omega (arith, value-grows (v * 10 + digit_value (get_or text i 0)) (drop (suc i) text))

number_by : (a b c : Bool) (v : ℕ) → c ≡ false → cond (a && b && c) (Some v) None ≡ None
number_by true true c v e = rw e refl
number_by true false c v e = refl
number_by false b c v e = refl

pub number-none : (text : List ℕ) → 2 ^ 64 ≤ digits_value 10 text → number text ≡ None
number-none text over = number_by (nat_lt 0 (length text)) (all_ascii_digits text) (nat_lt (digits_value 10 text) (2 ^ 64)) (digits_value 10 text) (grind (arith, common_steps))

pub number-some : (text : List ℕ) (v : ℕ) → 0 < length text → all_ascii_digits text ≡ true → digits_value 10 text ≡ v → v < 2 ^ 64 → Some v ≡ number text
number-some text v some digits is fits =
    let a : nat_lt 0 (length text) ≡ true = grind (arith, common_steps) in
    let c : nat_lt (digits_value 10 text) (2 ^ 64) ≡ true = grind (arith, common_steps) in
    rw (a, digits, c, is) refl
