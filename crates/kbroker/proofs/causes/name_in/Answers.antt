use Rattle.std.proofs.Common.{◌∙◌, List, ℕ, Bor, ap, sym}
use Rattle.std.proofs.lemmas.Option.{slice_get-map}
use Rattle.std.specs.Prelude.{option_map}
use Rattle.kbroker.proofs.Why.{copied_at}
use Rattle.kbroker.proofs.causes.name_in.Goals as goal

pub returns : goal.returns
returns c =
    ap (option_map (λ (name : Bor (List ℕ)). name.now)) (c.copied.ensures ∙ copied_at c.args.names.now c.args.place c.get.result c.get.ensures.lookup)
    ∙ sym (slice_get-map (λ (name : Bor (List ℕ)). name.now) c.args.names.now c.args.place)
