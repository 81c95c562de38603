-- What is gathered place by place.
use Rattle.std.proofs.Common.{◌≡◌, ◌∙◌, ◌+◌, ℕ, List, [], ◌∷◌, ◌++◌, map, refl, sym, ap, zero-add}
use Rattle.std.specs.List.{flat_map, range_with_len}
use Rattle.std.proofs.lemmas.List.{flat_map_more, map-id}
use Rattle.std.proofs.lemmas.List.FromFn.{map-range_with_len_more}

one_more : (n : ℕ) → range_with_len 0 n ++ n ∷ [] ≡ range_with_len 0 (n + 1)
one_more n =
    ap (λ ns. ns ++ n ∷ []) (sym (map-id (range_with_len 0 n))) ∙ sym (map-range_with_len_more (λ (k : ℕ). k) 0 n n (zero-add n))
    ∙ map-id (range_with_len 0 (n + 1))

-- what is at one more place
pub place_more : {A : Type 0} (at : ℕ → List A) (out new : List A) (n : ℕ) → out ≡ flat_map at (range_with_len 0 n)
    → new ≡ out ++ at n → new ≡ flat_map at (range_with_len 0 (n + 1))
place_more at out new n e h =
    h ∙ ap (λ y. y ++ at n) e ∙ flat_map_more at [] (range_with_len 0 n) n ∙ ap (λ ys. flat_map at ys) (one_more n)

pub map_both : {X Y Z : Type 0} (f : Y → Z) (g : X → Y) (xs : List X) → map f (map g xs) ≡ map (λ x. f (g x)) xs
map_both f g [] = refl
map_both f g (x ∷ xs) = ap (λ ys. f (g x) ∷ ys) (map_both f g xs)
