use Rattle.std.proofs.Common.{◌<◌, ◌^◌, ◌∙◌, List, length, subst, sym}
use Rattle.kb_api_group.specs.declared.api_versions.ApiVersion.{ApiVersion}
use Rattle.kb_broker.proofs.OpeningParts.{all-listed, few-listed, versions-fit}
use Rattle.kb_broker.proofs.opening.listed_versions.Goals as goal

pub returns-clause-is : goal.returns-clause-is
returns-clause-is c = c.from_vec.ensures ∙ (c.in_ok-versions.ensures ∙ all-listed c.args.listing)

pub returns-clause-fits : goal.returns-clause-fits
returns-clause-fits c = versions-fit _ (subst (λ (versions : List ApiVersion). length versions < 2 ^ 31) (sym (c.from_vec.ensures ∙ (c.in_ok-versions.ensures ∙ all-listed c.args.listing))) (few-listed c.args.listing))
