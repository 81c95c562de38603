use Rattle.std.proofs.Common.{rules, tests, ◌∙◌}
use Rattle.std.specs.Str.{bytes_eq}
use Rattle.std.proofs.lemmas.Iterator.{YieldsList-from_slice}
use Rattle.std.proofs.lemmas.Iterator.Search.{any_from_yields_List}
use Rattle.kb_settings.proofs.Keys.{any-known}
use Rattle.kb_settings.proofs.document.is_among.Goals as goal

pub returns : goal.returns
returns c =
    any_from_yields_List (λ k. bytes_eq k.now c.args.key.now) _ _ c.any.result c.any.ensures.ran (YieldsList-from_slice c.args.keys.now cc) (λ x b q k. search (rules, tests))
    ∙ any-known c.args.key.now c.args.keys.now
