-- What the digits of a name spell.
use Rattle.std.proofs.Common.{◌≡◌, ◌∙◌, ◌≤◌, ◌<◌, ◌+◌, ◌-◌, ◌*◌, ◌&&◌, ◌++◌, ℕ, Bool, true, false, cond, List, [], ◌∷◌, length, take, drop, get_or, zero, suc, nat_eq, lit<, ap, sym, refl, arith, Option, Some, None, drop-cons, add-one}
use Rattle.std.specs.Prelude.{nat_lt, bytes_eq, slice_index}
use Rattle.std.specs.List.{list_all}
use Rattle.std.specs.Str.{IsAscii}
use Rattle.std.proofs.lemmas.Bool.{lt-ltb, le-ltb}
use Rattle.std.proofs.lemmas.List.{take_at, drop_at, length-append, nil_from_length, length-drop}
use Rattle.kb_folder.specs.Names.{is_digit, spelled_from, suffix, number_of, number_named}

pub spelled_least : (n : ℕ) (ds : List ℕ) → n ≤ spelled_from n ds
spelled_least n [] = omega arith
spelled_least n (d ∷ ds) = omega (arith, spelled_least (10 * n + (d - 48)) ds)

either : (b : Bool) (x : Option ℕ) → cond (b && false) x None ≡ None
either true x = refl
either false x = refl

-- more than 64 bits
none_over : (ds : List ℕ) → 18446744073709551616 ≤ spelled_from 0 ds → number_of ds ≡ None
none_over ds l = rw (le-ltb (spelled_from 0 ds) 18446744073709551616 l) (either (list_all is_digit ds) (Some (spelled_from 0 ds)))

pub too_many : (ds : List ℕ) (i n : ℕ) → i < length ds → spelled_from n (drop i ds) ≡ spelled_from 0 ds → 18446744073709551616 ≤ 10 * n + (get_or ds i 0 - 48) → number_of ds ≡ None
too_many ds i n l e over =
    let step : spelled_from n (drop i ds) ≡ spelled_from (10 * n + (get_or ds i 0 - 48)) (drop (i + 1) ds) = ap (spelled_from n) (drop-cons ds i 0 l ∙ ap (λ k. get_or ds i 0 ∷ drop k ds) (sym (add-one i))) in
    none_over ds (omega (arith, step, e, over, spelled_least (10 * n + (get_or ds i 0 - 48)) (drop (i + 1) ds)))

pub number_is : (ds : List ℕ) (n : ℕ) → list_all is_digit ds ≡ true → spelled_from 0 ds ≡ n → n < 18446744073709551616 → number_of ds ≡ Some n
number_is ds n all e l = let small : nat_lt (spelled_from 0 ds) 18446744073709551616 ≡ true = lt-ltb (spelled_from 0 ds) 18446744073709551616 (omega (arith, e, l)) in rw (all, small) (ap Some e)

pub all_read : (ds : List ℕ) (i n : ℕ) → length ds ≤ i → list_all is_digit (drop i ds) ≡ list_all is_digit ds → spelled_from n (drop i ds) ≡ spelled_from 0 ds → n < 18446744073709551616 → Some n ≡ number_of ds
all_read ds i n l all e small =
    let none : drop i ds ≡ [] = nil_from_length (drop i ds) (omega (arith, length-drop i ds, l)) in
    sym (number_is ds n (sym all ∙ ap (list_all is_digit) none) (sym e ∙ ap (spelled_from n) none) small)

pub digit_ascii : (d : ℕ) → is_digit d ≡ true → d < 128
digit_ascii d e = grind (arith, e)

both_true : (a b : Bool) → (a && b) ≡ true → (a ≡ true) × (b ≡ true)
both_true true b e = (refl, e)
both_true false b e = absurd cc

digit_at : (ds : List ℕ) → list_all is_digit ds ≡ true → (i : ℕ) → slice_index ds i < 128
digit_at [] e i = lit< tt
digit_at (d ∷ ds) e zero = digit_ascii d (both_true (is_digit d) (list_all is_digit ds) e).0
digit_at (d ∷ ds) e (suc i) = digit_at ds (both_true (is_digit d) (list_all is_digit ds) e).1 i

pub digits_ascii : (ds : List ℕ) → list_all is_digit ds ≡ true → IsAscii ds
digits_ascii ds e i = digit_at ds e i

pub name_is : (ds : List ℕ) (name : List ℕ) (n : ℕ) → length ds ≡ 20 → list_all is_digit ds ≡ true → spelled_from 0 ds ≡ n → n < 18446744073709551616 → name ≡ ds ++ suffix → number_named name ≡ Some n
name_is ds name n len all e small is =
    let front : take 20 name ≡ ds = ap (take 20) is ∙ take_at ds suffix 20 len in
    let back : drop 20 name ≡ suffix = ap (drop 20) is ∙ drop_at ds suffix 20 len in
    let long : length name ≡ 24 = ap length is ∙ omega (arith, length-append ds suffix, len) in
    rw (long, back, front) (number_is ds n all e small)

pub named : (name : List ℕ) → length name ≡ 24 → bytes_eq (drop 20 name) suffix ≡ true → number_named name ≡ number_of (take 20 name)
named name long back = rw (long, back) refl

either_test : (b : Bool) (x : Option ℕ) → cond (b && false) x None ≡ None
either_test true x = refl
either_test false x = refl

pub not_suffix : (name : List ℕ) → bytes_eq (drop 20 name) suffix ≡ false → number_named name ≡ None
not_suffix name back = rw back (either_test (nat_eq (length name) 24) (number_of (take 20 name)))
