use Rattle.std.proofs.Common.{◌≡◌, ◌++◌, List, ℕ, Result, ap, append_assoc, string_bytes, subst}
use Rattle.std.specs.Prelude.{IfOk}
use Rattle.std.specs.Fmt.{signed_decimal}
use Rattle.std.specs.Int.{w32, w64}
use Rattle.std.specs.declared.string.String.{String}
use Rattle.std.proofs.lemmas.Int.{to_z-of_z}
use Rattle.kb_operator.proofs.texts.partition_text.Goals as goal

spelled : {A E : Type 0} (r : Result (String A) E) (a b : List ℕ) → IfOk r (λ s. string_bytes s ≡ a) → a ≡ b → IfOk r (λ s. string_bytes s ≡ b)
spelled r a b h e = subst (λ x. IfOk r (λ s. string_bytes s ≡ x)) e h

pub returns : goal.returns
returns c =
    let instance = ap signed_decimal (to_z-of_z w64 c.args.instance c.ranges.instance) in
    let partition = ap signed_decimal (to_z-of_z w32 c.args.partition c.ranges.partition) in
    spelled _ _ _ c.format.ensures.ok (simp (append_assoc, instance, partition))
