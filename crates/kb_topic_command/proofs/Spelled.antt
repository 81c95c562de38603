-- Texts that are spelled.
use Rattle.std.proofs.Common.{◌≡◌, List, ℕ, Result, subst}
use Rattle.std.specs.Prelude.{IfOk, string_bytes}
use Rattle.std.specs.declared.string.String.{String}

pub spelled : {A E : Type 0} (r : Result (String A) E) (a b : List ℕ) → IfOk r (λ s. string_bytes s ≡ a) → a ≡ b → IfOk r (λ s. string_bytes s ≡ b)
spelled r a b h e = subst (λ x. IfOk r (λ s. string_bytes s ≡ x)) e h
