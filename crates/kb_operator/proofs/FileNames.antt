-- The name of a file is the one by which its number is read.
use Rattle.std.proofs.Common.{◌≡◌, ◌∙◌, ◌+◌, ◌-◌, ◌*◌, ◌/◌, ◌%◌, ◌≤◌, ◌<◌, ◌&&◌, ◌++◌, ℕ, zero, suc, Bool, true, false, List, [], ◌∷◌, length, take, drop, get_or, nat_eq, ◌^◌, Option, Some, None, refl, sym, ap, arith, take-append-drop, codes}
use Rattle.std.specs.Prelude.{bytes_eq, nat_lt, if◌then◌else◌}
use Rattle.std.specs.List.{list_all}
use Rattle.std.proofs.lemmas.Bool.{eqb-true}
use Rattle.std.proofs.lemmas.List.{length-take, take_all, take_more}
use Rattle.std.proofs.lemmas.List.Folds.{list_all_more}
use Rattle.std.proofs.lemmas.Slice.Eq.{bytes_eq-Decides}
use Rattle.kb_folder.specs.Names.{is_digit, spelled_from, suffix, number_of, number_named}
use Rattle.kb_operator.specs.FileNames.{last_digits, name_of}

both : (a b : Bool) → (a && b) ≡ true → (a ≡ true) × (b ≡ true)
both true b e = (refl, e)
both false b e = absurd cc

some_if : (b : Bool) (x : Option ℕ) (n : ℕ) → (if b then x else None) ≡ Some n → (b ≡ true) × (x ≡ Some n)
some_if true x n e = (refl, e)
some_if false x n e = absurd cc

-- one digit more
spelled_more : (n : ℕ) (ds : List ℕ) (d : ℕ) → spelled_from n (ds ++ d ∷ []) ≡ 10 * spelled_from n ds + (d - 48)
spelled_more n [] d = refl
spelled_more n (x ∷ ds) d = spelled_more (10 * n + (x - 48)) ds d

digits_more : (k : ℕ) (front : List ℕ) (d : ℕ) → last_digits k (spelled_from 0 front) ≡ front → is_digit d ≡ true
    → last_digits (suc k) (spelled_from 0 (front ++ d ∷ [])) ≡ front ++ d ∷ []
digits_more k front d same digit =
    let a = spelled_from 0 front in
    let low : 48 ≤ d = grind (arith, digit) in
    let high : d ≤ 57 = grind (arith, digit) in
    let is : spelled_from 0 (front ++ d ∷ []) ≡ 10 * a + (d - 48) = spelled_more 0 front d in
    let tens : spelled_from 0 (front ++ d ∷ []) / 10 ≡ a = omega (arith, is, low, high) in
    let last : 48 + spelled_from 0 (front ++ d ∷ []) % 10 ≡ d = omega (arith, is, low, high) in
    ap (λ n. last_digits k n ++ (48 + spelled_from 0 (front ++ d ∷ []) % 10) ∷ []) tens
    ∙ ap (λ ds. ds ++ (48 + spelled_from 0 (front ++ d ∷ []) % 10) ∷ []) same
    ∙ ap (λ x. front ++ x ∷ []) last

-- the first so many of some digits
digits_are : (k : ℕ) (ds : List ℕ) → k ≤ length ds → list_all is_digit (take k ds) ≡ true → last_digits k (spelled_from 0 (take k ds)) ≡ take k ds
digits_are zero ds l all = refl
digits_are (suc k) ds l all =
    let here : suc k ≡ k + 1 = omega arith in
    let within : k < length ds = omega (arith, l) in
    let more : take (k + 1) ds ≡ take k ds ++ get_or ds k 0 ∷ [] = take_more ds k 0 within in
    let split = both (list_all is_digit (take k ds)) (is_digit (get_or ds k 0))
    (sym (list_all_more is_digit ds k 0 within) ∙ ap (λ n. list_all is_digit (take n ds)) (sym here) ∙ all) in
    ap (λ n. last_digits (suc k) (spelled_from 0 (take n ds))) here
    ∙ ap (λ xs. last_digits (suc k) (spelled_from 0 xs)) more
    ∙ digits_more k (take k ds) (get_or ds k 0) (digits_are k ds (omega (arith, l)) split.0) split.1
    ∙ sym more ∙ ap (λ n. take n ds) (sym here)

some_same : (a b : ℕ) → Some a ≡ Some b → a ≡ b
some_same a b e = cc

all_taken : (ds : List ℕ) → length ds ≡ 20 → take 20 ds ≡ ds
all_taken ds e = take_all 20 ds (omega (arith, e))

-- twenty digits that spell a number
digits_of : (ds : List ℕ) (n : ℕ) → length ds ≡ 20 → number_of ds ≡ Some n → ds ≡ last_digits 20 n
digits_of ds n long is =
    let parts = some_if (list_all is_digit ds && nat_lt (spelled_from 0 ds) (2 ^ 64)) (Some (spelled_from 0 ds)) n is in
    let all = (both (list_all is_digit ds) (nat_lt (spelled_from 0 ds) (2 ^ 64)) parts.0).0 in
    let same : take 20 ds ≡ ds = all_taken ds long in
    sym (ap (λ m. last_digits 20 m) (sym (some_same (spelled_from 0 ds) n parts.1))
    ∙ ap (λ xs. last_digits 20 (spelled_from 0 xs)) (sym same)
    ∙ digits_are 20 ds (omega (arith, long)) (ap (list_all is_digit) same ∙ all) ∙ same)

pub named : (name : List ℕ) (n : ℕ) → number_named name ≡ Some n → name ≡ name_of n
unfolding name_of
named name n is =
    let parts = some_if (nat_eq (length name) 24 && bytes_eq (drop 20 name) suffix) (number_of (take 20 name)) n is in
    let both_are = both (nat_eq (length name) 24) (bytes_eq (drop 20 name) suffix) parts.0 in
    let long : length name ≡ 24 = eqb-true (length name) 24 both_are.0 in
    let back : drop 20 name ≡ suffix = (bytes_eq-Decides (drop 20 name) suffix).0 both_are.1 in
    let front : take 20 name ≡ last_digits 20 n = digits_of (take 20 name) n (omega (arith, length-take 20 name, long)) parts.1 in
    sym (take-append-drop 20 name) ∙ ap (λ xs. xs ++ drop 20 name) front ∙ ap (λ xs. last_digits 20 n ++ xs) back
