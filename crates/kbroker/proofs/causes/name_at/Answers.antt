use Rattle.std.proofs.Common.{◌∙◌, List, ℕ, Bor, ap, subst}
use Rattle.std.proofs.lemmas.Int.{to_z-of_z}
use Rattle.std.proofs.Math.IntN.{nat_abs}
use Rattle.std.specs.Prelude.{option_map}
use Rattle.std.specs.Int.{FitsUnsignedBits, w16}
use Rattle.kbroker.specs.Shut.{api_name, api_names}
use Rattle.kbroker.proofs.Why.{name_found}
use Rattle.kbroker.proofs.causes.name_at.Goals as goal

pub returns-in-Ok : goal.returns-in-Ok
unfolding api_names
returns-in-Ok c =
    let key = to_z-of_z w16 c.args.api_key c.ranges.api_key in
    name_found c.args.api_key c.in-Ok.place (option_map (λ (name : Bor (List ℕ)). name.now) c.name_in.result)
    (subst (FitsUnsignedBits 64) key c.in-Ok.ensures.0) (c.in-Ok.ensures.1 ∙ ap nat_abs key) c.name_in.ensures
