use Rattle.std.proofs.Common.{◌≡◌, ◌∙◌, ◌*◌, ap, map, string_bytes, rules}
use Rattle.kb_settings.specs.Names.{in_order}
use Rattle.kb_settings.specs.Values.{values_of}
use Rattle.kb_operator.specs.Sums.{told, fetched_by}
use Rattle.kb_operator.proofs.Counted.{names_same}
use Rattle.kb_operator.proofs.sums.fetched_at_most.Goals as goal

pub returns : goal.returns
returns c =
    let settings = c.args.settings.now in
    let named : map (λ name. name.now) c.deref-2.result.now ≡ in_order (map (λ u. string_bytes u.tenant) settings.users.items) = search rules in
    c.saturating_mul.ensures
    ∙ ap (λ most. told (settings.connections * most)) (c.fetched_by-most.ensures ∙ ap (fetched_by (values_of settings)) (named ∙ names_same settings))
