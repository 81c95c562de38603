use Rattle.std.proofs.Common.{◌∙◌}
use Rattle.kb_opening.proofs.Named.{searched_place}
use Rattle.kb_opening.proofs.owner.place_of.Goals as goal

pub returns : goal.returns
returns c = c.ok.ensures.value ∙ searched_place (λ name. name.now) _ _ _ c.binary_search.ensures.position c.binary_search.ensures.bound c.requires
