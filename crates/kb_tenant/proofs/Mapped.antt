-- Lists whose items are put into another form.
use Rattle.std.proofs.Common.{◌≡◌, ap, refl, ℕ, List, [], ◌∷◌, ◌++◌, map}
use Rattle.std.specs.Prelude.{All}
use Rattle.std.specs.List.{AllByRecursion, flat_map}
use Rattle.std.proofs.lemmas.List.Elements.{All-from_recursion, recursion_from_All}

module _ {A B : Type 0} (f : A → B) where
  pub flat_map-map : (g : B → List ℕ) (xs : List A) → flat_map g (map f xs) ≡ flat_map (λ x. g (f x)) xs
  flat_map-map g [] = refl
  flat_map-map g (x ∷ xs) = ap (λ s. g (f x) ++ s) (flat_map-map g xs)

  by_recursion : (P : A → Type 0) (Q : B → Type 0) → ((x : A) → P x → Q (f x)) → (xs : List A) → AllByRecursion P xs → AllByRecursion Q (map f xs)
  by_recursion P Q one [] all = tt
  by_recursion P Q one (x ∷ xs) all = (one x all.0, by_recursion P Q one xs all.1)

  -- what holds of each item holds of its other form
  pub all-map : (P : A → Type 0) (Q : B → Type 0) → ((x : A) → P x → Q (f x)) → (xs : List A) → All P xs → All Q (map f xs)
  all-map P Q one xs all = All-from_recursion Q (map f xs) (by_recursion P Q one xs (recursion_from_All P xs all))
