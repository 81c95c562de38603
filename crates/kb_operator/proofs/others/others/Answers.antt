use Rattle.std.proofs.Common.{◌≡◌, ◌∙◌, ap, map, string_bytes, rules}
use Rattle.kb_settings.specs.Names.{in_order}
use Rattle.kb_settings.specs.Values.{values_of}
use Rattle.kb_operator.specs.Others.{without_limits}
use Rattle.kb_operator.specs.Sums.{told}
use Rattle.kb_operator.proofs.Counted.{names_same}
use Rattle.kb_operator.proofs.others.others.Goals as goal

pub returns : goal.returns
returns c =
    let settings = c.args.settings.now in
    let named : map (λ name. name.now) c.deref-2.result.now ≡ in_order (map (λ u. string_bytes u.tenant) settings.users.items) = search rules in
    c.without_limits.ensures ∙ ap (λ names. told (without_limits (values_of settings) names)) (named ∙ names_same settings)
