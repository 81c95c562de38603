-- What a loop pushes for each item of a list.
use Rattle.std.proofs.Common.{◌≡◌, ℕ, ◌+◌, ◌<◌, ◌≤◌, List, [], ◌∷◌, ◌++◌, length, map, get_or, take, sym, ap, subst, ◌∙◌}
use Rattle.std.specs.Prelude.{All}
use Rattle.std.proofs.lemmas.List.{map_more, take_all}
use Rattle.std.proofs.lemmas.List.Elements.{All-append, All-cons, All-nil}

-- one item more
pub mapped_more : {A B : Type 0} (f : A → B) (list : List A) (i : ℕ) (v : A) (old new : List B) (w : B) → i < length list → v ≡ get_or list i v → old ≡ map f (take i list) → w ≡ f v → new ≡ old ++ w ∷ [] → new ≡ map f (take (i + 1) list)
mapped_more f list i v old new w lt is so_far same pushed =
    pushed ∙ ap (λ xs. xs ++ w ∷ []) so_far ∙ ap (λ y. map f (take i list) ++ y ∷ []) (same ∙ ap f is) ∙ sym (map_more f list i v lt)

-- all of them
pub mapped_all : {A B : Type 0} (f : A → B) (list : List A) (i : ℕ) (all : List B) → length list ≤ i → all ≡ map f (take i list) → all ≡ map f list
mapped_all f list i all le is = is ∙ ap (λ xs. map f xs) (take_all i list le)

-- what holds of the items so far and of one more
pub all_pushed : {B : Type 0} (P : B → Type 0) (old new : List B) (w : B) → All P old → P w → new ≡ old ++ w ∷ [] → All P new
all_pushed P old new w so_far here pushed = subst (All P) (sym pushed) (All-append P old (w ∷ []) so_far (All-cons P w [] here (All-nil P)))
