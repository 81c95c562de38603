use Rattle.std.proofs.Common.{◌∷◌, drop, ap, sym, ◌∙◌, None, Some, lit<}
use Rattle.std.proofs.lemmas.Str.Pattern.{strip_prefix_char}
use Rattle.kb_groups.proofs.ids.digits_of.Goals as goal

pub returns-in_default : goal.returns-in_default
returns-in_default c = λ rest e. strip_prefix_char 109 c.args.id.now None c.in_default.ensures.cases (lit< tt) (45 ∷ rest) e

pub returns-in_default-strip_prefix : goal.returns-in_default-strip_prefix
returns-in_default-strip_prefix c = λ rest e.
    let front = strip_prefix_char 109 c.args.id.now (Some c.in-Some.rest) c.in-Some.ensures.cases (lit< tt) in
    strip_prefix_char 45 c.in-Some.rest.now None c.in_default-strip_prefix.ensures.cases (lit< tt) rest (ap (drop 1) (sym front ∙ e))
