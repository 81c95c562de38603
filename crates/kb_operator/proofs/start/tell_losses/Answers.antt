use Rattle.std.proofs.Common.{◌-◌, ◌++◌, ℕ, List, ap, codes, length, map, subst, take}
use Rattle.kb_start.specs.declared.losses.Loss.{Loss}
use Rattle.kb_operator.specs.Found.{count_text}
use Rattle.kb_operator.specs.Logged.{MakesText, TellsBare, texts_of}
use Rattle.kb_operator.specs.Texts.{loss_line}
use Rattle.kb_operator.proofs.Logged.{bare_both}
use Rattle.kb_operator.proofs.start.tell_losses.Goals as goal

pub returns : goal.returns
returns g c =
    let losses = c.args.losses.now in
    let line : Loss → List ℕ = loss_line c.args.path.now in
    let more = count_text (codes "and ") (length losses - 20) (codes " files more") in
    let a = g.T.LineLog.logged c.args.lines.now in
    let b = g.T.LineLog.logged c.tell_each.new.lines in
    let d = g.T.LineLog.logged c.tell_bare_if.new.lines in
    let first = subst (λ ls. TellsBare (map line ls) a b) c.first_of.ensures c.tell_each.ensures in
    let made = subst (λ n. MakesText (count_text (codes "and ") n (codes " files more")) c.count_text.result) c.saturating_sub-more.ensures c.count_text.ensures in
    bare_both (map line (take 20 losses)) (texts_of more) a b d first (c.tell_bare_if.ensures more made)
