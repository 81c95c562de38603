-- A loop that writes each item of a list in turn.
use Rattle.std.proofs.Common.{◌≡◌, ◌∙◌, ◌+◌, ◌<◌, ℕ, List, [], ◌∷◌, ◌++◌, length, map, take, drop, get_or, sym, ap, arith}
use Rattle.std.specs.List.{flat_map}
use Rattle.std.proofs.lemmas.List.{length-take, length-map, drop_more, get_or_at, flat_map_more, map_more, take_more}

-- the item whose turn it is was not written yet
pub item_at : {X : Type 0} (f : X → X) (xs ys : List X) (i : ℕ) (x : X) → i < length xs → ys ≡ map f (take i xs) ++ drop i xs → x ≡ get_or ys i x → x ≡ get_or xs i x
item_at f xs ys i x lt h is =
    let front = map f (take i xs) in
    let long : length front ≡ i = length-map (take i xs) f ∙ omega (arith, length-take i xs) in
    let parts : ys ≡ front ++ get_or xs i x ∷ drop (i + 1) xs = h ∙ ap (λ l. front ++ l) (drop_more xs i x lt) in
    is ∙ ap (λ l. get_or l i x) parts ∙ get_or_at front _ _ x i long

-- what is put of one more item
pub put_more : {X A : Type 0} (f : X → List A) (xs : List X) (i : ℕ) (x : X) → i < length xs → x ≡ get_or xs i x
    → flat_map f (take i xs) ++ f x ≡ flat_map f (take (i + 1) xs)
put_more f xs i x lt is =
    flat_map_more f [] (take i xs) x ∙ ap (λ y. flat_map f (take i xs ++ y ∷ [])) is ∙ ap (flat_map f) (sym (take_more xs i x lt))

-- one more item is mapped
pub map_next : {X A : Type 0} (f : X → A) (xs : List X) (i : ℕ) (x : X) → i < length xs → x ≡ get_or xs i x
    → map f (take i xs) ++ f x ∷ [] ≡ map f (take (i + 1) xs)
map_next f xs i x lt is = ap (λ y. map f (take i xs) ++ f y ∷ []) is ∙ sym (map_more f xs i x lt)
