-- Two layouts one behind the other, as the Kafka protocol guide writes the fields of a message ("Protocol Grammar").
use Rattle.std.proofs.Common.{refl}
use Rattle.kb_wire.specs.Codec.{Codec, ◌⊗◌, via}
use Rattle.kb_wire.specs.Laws.{IsLawful, pair_lawful, via_lawful}
use Rattle.kb_api_data.specs.declared.both.Both.{Both}

-- a value, and a second one behind it
unfoldable pub both : {A B : Type 0} → Codec A → Codec B → Codec (Both A B)
both a b = via (λ p. record { first = p.0; second = p.1 }) (λ v. (v.first, v.second)) (a ⊗ b)

pub both_lawful : {A B : Type 0} {a : Codec A} {b : Codec B} → IsLawful a → IsLawful b → IsLawful (both a b)
unfolding both
both_lawful la lb = via_lawful _ _ (pair_lawful la lb) (λ _. refl) (λ _. refl)
