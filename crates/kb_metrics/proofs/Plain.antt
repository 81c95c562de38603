-- No byte of an escaped name begins or ends a tag, or a value in quotes. What has no such byte stands for itself.
use Rattle.std.proofs.Common.{◌≡◌, ◌∙◌, ℕ, List, [], ◌∷◌, ◌++◌, ◌==◌, ◌||◌, ◌&&◌, Bool, true, false, refl, ap, arith, cond}
use Rattle.std.specs.List.{AllByRecursion}
use Rattle.kb_metrics.specs.Markup.{IsNoMarkup, entity, is_bare, is_bare_byte, marked}
use Rattle.kb_metrics.specs.Text.{escape, escaped, is_plain, is_plain_byte}

both : (a b : List ℕ) → AllByRecursion IsNoMarkup a → AllByRecursion IsNoMarkup b → AllByRecursion IsNoMarkup (a ++ b)
both [] b h k = k
both (x ∷ a) b h k = (h.0, both a b h.1 k)

either : (c : Bool) (x y : List ℕ) → AllByRecursion IsNoMarkup x → (c ≡ false → AllByRecursion IsNoMarkup y) → AllByRecursion IsNoMarkup (cond c x y)
either true x y h k = h
either false x y h k = k refl

other : (b : ℕ) → (b == 60) ≡ false → (b == 62) ≡ false → (b == 34) ≡ false → (b == 39) ≡ false → IsNoMarkup b
other b n60 n62 n34 n39 =
    ap (λ c. c || (b == 62 || (b == 34 || b == 39))) n60 ∙ ap (λ c. c || (b == 34 || b == 39)) n62 ∙ ap (λ c. c || b == 39) n34 ∙ n39

entity_plain : (b : ℕ) → AllByRecursion IsNoMarkup (entity b)
entity_plain b =
    either (b == 38) _ _ (refl, (refl, (refl, (refl, (refl, tt))))) (λ _.
    either (b == 60) _ _ (refl, (refl, (refl, (refl, tt)))) (λ n60.
    either (b == 62) _ _ (refl, (refl, (refl, (refl, tt)))) (λ n62.
    either (b == 34) _ _ (refl, (refl, (refl, (refl, (refl, (refl, tt)))))) (λ n34.
    either (b == 39) _ _ (refl, (refl, (refl, (refl, (refl, tt))))) (λ n39. (other b n60 n62 n34 n39, tt))))))

pub marked_plain : (name : List ℕ) → AllByRecursion IsNoMarkup (marked name)
marked_plain [] = tt
marked_plain (b ∷ name) = both (entity b) (marked name) (entity_plain b) (marked_plain name)

-- ---- what stands for itself

split : (p q : Bool) → (p && q) ≡ true → (p ≡ true) × (q ≡ true)
split true q h = (refl, h)
split false q h = absurd cc

plain_byte : (b : ℕ) → is_plain_byte b ≡ true → escape b ≡ b ∷ []
plain_byte b h = grind (arith, h)

-- where each byte stands for itself, the whole does
pub plain_escaped : (value : List ℕ) → is_plain value ≡ true → escaped value ≡ value
plain_escaped [] h = refl
plain_escaped (b ∷ value) h =
    let both = split (is_plain_byte b) (is_plain value) h in
    ap (λ e. e ++ escaped value) (plain_byte b both.0) ∙ ap (λ v. b ∷ v) (plain_escaped value both.1)

bare_byte : (b : ℕ) → is_bare_byte b ≡ true → entity b ≡ b ∷ []
bare_byte b h = grind (arith, h)

pub bare_marked : (name : List ℕ) → is_bare name ≡ true → marked name ≡ name
bare_marked [] h = refl
bare_marked (b ∷ name) h =
    let both = split (is_bare_byte b) (is_bare name) h in
    ap (λ e. e ++ marked name) (bare_byte b both.0) ∙ ap (λ n. b ∷ n) (bare_marked name both.1)
