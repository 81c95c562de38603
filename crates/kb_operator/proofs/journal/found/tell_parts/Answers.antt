use Rattle.std.proofs.Common.{◌-◌, ◌++◌, codes, subst}
use Rattle.kb_operator.specs.Found.{count_text}
use Rattle.kb_operator.specs.Logged.{MakesText, texts_of}
use Rattle.kb_operator.proofs.Logged.{tells_both}
use Rattle.kb_operator.proofs.journal.found.tell_parts.Goals as goal

pub returns : goal.returns
returns g c =
    let behind = codes ", in " ++ c.args.path.now in
    let dropped = count_text (codes "kept what is dropped of damaged files: ") (c.args.parts - c.args.aside) behind in
    let aside = count_text (codes "set aside files that the settings do not fit: ") c.args.aside behind in
    let made = subst (λ n. MakesText (count_text (codes "kept what is dropped of damaged files: ") n behind) c.count_text.result)
    c.saturating_sub-dropped.ensures c.count_text.ensures in
    tells_both c.args.now (texts_of dropped) (texts_of aside) (g.T.LineLog.logged c.args.lines.now) (g.T.LineLog.logged c.tell_if.new.lines)
    (g.T.LineLog.logged c.tell_if-2.new.lines) (c.tell_if.ensures dropped made) (c.tell_if-2.ensures aside c.count_text-2.ensures)
