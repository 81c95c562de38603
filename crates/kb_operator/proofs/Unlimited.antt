-- Tenants that no limits name.
use Rattle.std.proofs.Common.{◌≡◌, ◌∷◌, [], ◌||◌, Bool, true, false, cond, List, Some, None, refl, sym}
use Rattle.std.proofs.lemmas.Bool.{false≢true}
use Rattle.std.specs.List.{find, list_any}

-- where no element passes, none is found
pub none_found : {X : Type 0} (test : X → Bool) (xs : List X) → list_any test xs ≡ false → find test xs ≡ None
none_found test [] h = refl
none_found test (x ∷ xs) h =
    elim (test x) as (λ b. (b || list_any test xs) ≡ false → cond b (Some x) (find test xs) ≡ None) [
      | true ↦ λ e. absurd (false≢true (sym e))
      | false ↦ λ e. none_found test xs e
    ] h
