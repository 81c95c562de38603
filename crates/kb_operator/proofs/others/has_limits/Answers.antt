use Rattle.std.proofs.Common.{rules, tests, string_bytes, ap, sym, ◌∙◌}
use Rattle.std.specs.List.{list_any}
use Rattle.std.specs.Str.{bytes_eq}
use Rattle.std.proofs.lemmas.Iterator.{YieldsList-from_slice}
use Rattle.std.proofs.lemmas.Iterator.Search.{any_from_yields_List}
use Rattle.kb_settings.specs.Limits.{limits_in}
use Rattle.kb_settings.proofs.NamesInOrder.{any-map}
use Rattle.kb_operator.proofs.others.has_limits.Goals as goal

pub returns : goal.returns
returns c =
    let name = c.args.name.now in
    any_from_yields_List (λ t. bytes_eq (string_bytes t.name) name) _ _ c.any.result c.any.ensures.ran (YieldsList-from_slice c.deref.result.now cc) (λ x b q k. search (rules, tests))
    ∙ ap (list_any (λ t. bytes_eq (string_bytes t.name) name)) c.deref.ensures.value
    ∙ sym (any-map limits_in (λ t. bytes_eq t.name name) c.args.settings.now.tenants.items)
