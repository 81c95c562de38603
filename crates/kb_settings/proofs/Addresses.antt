-- A host and a port in a text.
use Rattle.std.proofs.Common.{◌≡◌, ◌≢◌, ◌<◌, ◌==◌, ◌&&◌, ◌^◌, ℕ, Bool, true, false, List, [], ◌∷◌, Option, Some, None, option_map, refl, sym, ap, subst, ◌∙◌, arith}
use Rattle.std.specs.Prelude.{MatchOption}
use Rattle.std.specs.Borrow.{Bor}
use Rattle.std.specs.List.{list_all}
use Rattle.std.specs.Char.{digit_value}
use Rattle.std.specs.Str.Parse.{AllDigits, IsNumeral, digits_value, without_leading_plus}
use Rattle.std.proofs.lemmas.Bool.{false≢true}
use Rattle.std.proofs.lemmas.Bool.Decides.{nat_tests}
use Rattle.std.proofs.lemmas.Str.Parse.{without_leading_plus_none}
use Rattle.kb_settings.specs.Settings.{is_within}
use Rattle.kb_settings.specs.Address.{behind, is_digit, are_digits, port_in}

-- 1. A character in front

behind-at : (c : ℕ) (rest : List ℕ) → behind c (c ∷ rest) ≡ Some rest
behind-at c rest = go (c == c) refl (grind (arith, nat_tests))
  where
    go : (t : Bool) → (c == c) ≡ t → t ≡ true → behind c (c ∷ rest) ≡ Some rest
    go t e f = rw (e, f)

pub behind-from : (c : ℕ) (bs : List ℕ) (r : Option (Bor (List ℕ)))
    → MatchOption r ((rest : List ℕ) → bs ≢ c ∷ rest) (λ x. bs ≡ c ∷ x.now) → option_map (λ s. s.now) r ≡ behind c bs
behind-from c [] None h = refl
behind-from c [] (Some x) h = cc
behind-from c (b ∷ bs) None h = go (b == c) refl
  where
    go : (t : Bool) → (b == c) ≡ t → None ≡ behind c (b ∷ bs)
    go true e = absurd (h bs (ap (λ n. n ∷ bs) (grind (arith, nat_tests))))
    go false e = rw e
behind-from c (b ∷ bs) (Some x) h = sym (ap (behind c) h ∙ behind-at c x.now)

-- 2. A port

digit : (c : ℕ) → is_digit c ≡ true → digit_value c < 10
digit c h = grind (arith, nat_tests)

no-plus : (c : ℕ) → is_digit c ≡ true → c ≢ 43
no-plus c h e = absurd (grind (arith, nat_tests))

both : (a b : Bool) → (a && b) ≡ true → (a ≡ true) × (b ≡ true)
both true true h = (refl, refl)
both true false h = absurd (false≢true h)
both false b h = absurd (false≢true h)

digits : (ds : List ℕ) → list_all is_digit ds ≡ true → AllDigits 10 ds
digits [] h = tt
digits (c ∷ cs) h =
    let (here, there) = both (is_digit c) (list_all is_digit cs) h in
    (digit c here, digits cs there)

all-digits : (text : List ℕ) → are_digits text ≡ true → list_all is_digit text ≡ true
all-digits text h = (both _ _ h).1

-- digits alone begin with no sign
pub unsigned : (text : List ℕ) → are_digits text ≡ true → without_leading_plus text ≡ text
unsigned [] h = absurd (false≢true h)
unsigned (c ∷ cs) h = without_leading_plus_none (c ∷ cs) (no-plus c (both (is_digit c) (list_all is_digit cs) (all-digits (c ∷ cs) h)).0)

numeral : (text : List ℕ) → are_digits text ≡ true → IsNumeral 10 text
numeral [] h = absurd (false≢true h)
numeral (c ∷ cs) h = (omega arith, digits (c ∷ cs) (all-digits (c ∷ cs) h))

below : (n : ℕ) → is_within 1 65535 n ≡ true → n < 2 ^ 16
below n h = grind (arith, nat_tests)

-- what is no number of 16 bits is no port
pub no-port : (text : List ℕ) → are_digits text ≡ true
    → (IsNumeral 10 (without_leading_plus text) × (digits_value 10 (without_leading_plus text) < 2 ^ 16) → ⊥) → None ≡ port_in text
no-port text is none = go (is_within 1 65535 (digits_value 10 text)) refl
  where
    go : (t : Bool) → is_within 1 65535 (digits_value 10 text) ≡ t → None ≡ port_in text
    go true e = absurd (none (subst (λ ds. IsNumeral 10 ds × (digits_value 10 ds < 2 ^ 16)) (sym (unsigned text is)) (numeral text is, below _ e)))
    go false e = rw (is, e)
