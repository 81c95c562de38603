-- Looking through a list from a place on.
use Rattle.std.proofs.Common.{◌≡◌, ◌∙◌, ◌<◌, ◌+◌, ℕ, suc, Bool, true, false, cond, List, length, get_or, drop, Some, ap, sym, drop-cons, add-one}
use Rattle.std.specs.List.{find}

pub find_here : {A : Type 0} (p : A → Bool) (xs : List A) (i : ℕ) (d : A) → i < length xs → p (get_or xs i d) ≡ true → find p (drop i xs) ≡ Some (get_or xs i d)
find_here p xs i d lt at = ap (find p) (drop-cons xs i d lt) ∙ ap (λ b. cond b (Some (get_or xs i d)) (find p (drop (suc i) xs))) at

pub find_on : {A : Type 0} (p : A → Bool) (xs : List A) (i : ℕ) (d : A) → i < length xs → p (get_or xs i d) ≡ false → find p (drop (i + 1) xs) ≡ find p (drop i xs)
find_on p xs i d lt other = ap (λ k. find p (drop k xs)) (add-one i) ∙ sym (ap (find p) (drop-cons xs i d lt) ∙ ap (λ b. cond b (Some (get_or xs i d)) (find p (drop (suc i) xs))) other)
