-- Texts that are spelled.
use Rattle.std.proofs.Common.{◌≡◌, ◌++◌, List, ℕ, Result, subst, sym, append_assoc}
use Rattle.std.specs.Prelude.{IfOk, string_bytes, codes}
use Rattle.std.specs.declared.string.String.{String}

pub spelled : {A E : Type 0} (r : Result (String A) E) (a b : List ℕ) → IfOk r (λ s. string_bytes s ≡ a) → a ≡ b → IfOk r (λ s. string_bytes s ≡ b)
spelled r a b h e = subst (λ x. IfOk r (λ s. string_bytes s ≡ x)) e h

-- the words of a header's line
pub header_words : (number tenant kind base : List ℕ) → codes "file " ++ (number ++ (codes " tenant " ++ (tenant ++ (kind ++ (codes " base " ++ (base ++ codes "\n")))))) ≡ codes "file " ++ number ++ codes " tenant " ++ tenant ++ kind ++ codes " base " ++ base ++ codes "\n"
header_words number tenant kind base = sym (simp append_assoc)

-- the words of a batch's line
pub batch_words : (base count size : List ℕ) → codes "batch base " ++ (base ++ (codes " count " ++ (count ++ (codes " size " ++ (size ++ codes "\n"))))) ≡ codes "batch base " ++ base ++ codes " count " ++ count ++ codes " size " ++ size ++ codes "\n"
batch_words base count size = sym (simp append_assoc)
