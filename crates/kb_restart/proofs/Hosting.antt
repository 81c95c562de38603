-- The tenants are hosted, each with its name and its parts.
use Rattle.std.proofs.Common.{◌≡◌, ◌∙◌, ◌<◌, ℕ, zero, suc, List, [], ◌∷◌, Some, refl, ap, arith, map, take, length}
use Rattle.std.specs.Prelude.{slice_get}
use Rattle.std.specs.List.{zip}
use Rattle.std.proofs.lemmas.Option.{same_Some}

-- ---- two lists side by side

pub zip_second : {A B : Type 0} (xs : List A) (ys : List B) (k : ℕ) (e : A × B) → slice_get (zip xs ys) k ≡ Some e → slice_get ys k ≡ Some e.1
zip_second [] ys k e at = absurd cc
zip_second (x ∷ xs) [] k e at = absurd cc
zip_second (x ∷ xs) (y ∷ ys) zero e at = ap (λ q. Some q.1) (same_Some (x, y) e at)
zip_second (x ∷ xs) (y ∷ ys) (suc k) e at = zip_second xs ys k e at

pub zip_at : {A B : Type 0} (xs : List A) (ys : List B) (k : ℕ) (x : A) (y : B) → slice_get xs k ≡ Some x → slice_get ys k ≡ Some y → slice_get (zip xs ys) k ≡ Some (x, y)
zip_at [] ys k x y at here = absurd cc
zip_at (z ∷ xs) [] k x y at here = absurd cc
zip_at (z ∷ xs) (w ∷ ys) zero x y at here = ap (λ a. Some (a, w)) (same_Some z x at) ∙ ap (λ b. Some (x, b)) (same_Some w y here)
zip_at (z ∷ xs) (w ∷ ys) (suc k) x y at here = zip_at xs ys k x y at here

pub zip_firsts : {A B : Type 0} (xs : List A) (ys : List B) → length ys ≡ length xs → map (λ e. e.0) (zip xs ys) ≡ xs
zip_firsts [] ys many = refl
zip_firsts (x ∷ xs) [] many = absurd (omega (arith, many))
zip_firsts (x ∷ xs) (y ∷ ys) many = ap (λ zs. x ∷ zs) (zip_firsts xs ys (omega (arith, many)))

-- what the first ones have of the second list
pub front_second : {A B : Type 0} (xs : List A) (ys : List B) (n t : ℕ) (y : B) → slice_get (map (λ e. e.1) (take n (zip xs ys))) t ≡ Some y → (t < n) × (slice_get ys t ≡ Some y)
front_second [] ys zero t y at = absurd cc
front_second [] ys (suc n) t y at = absurd cc
front_second (x ∷ xs) [] zero t y at = absurd cc
front_second (x ∷ xs) [] (suc n) t y at = absurd cc
front_second (x ∷ xs) (z ∷ ys) zero t y at = absurd cc
front_second (x ∷ xs) (z ∷ ys) (suc n) zero y at = (omega arith, at)
front_second (x ∷ xs) (z ∷ ys) (suc n) (suc t) y at = let rest = front_second xs ys n t y at in let lt = rest.0 in (omega (arith, lt), rest.1)

-- with what the first list shows
pub zip_shown : {A B C D : Type 0} (shows : A → B) (f : B → C → D) (xs : List A) (ys : List C) → map (λ e. f (shows e.0) e.1) (zip xs ys) ≡ map (λ e. f e.0 e.1) (zip (map shows xs) ys)
zip_shown shows f [] ys = refl
zip_shown shows f (x ∷ xs) [] = refl
zip_shown shows f (x ∷ xs) (y ∷ ys) = ap (λ zs. f (shows x) y ∷ zs) (zip_shown shows f xs ys)
