use Rattle.std.proofs.Common.{◌≡◌, ◌∙◌, ◌<◌, arith, subst, sym}
use Rattle.kb_operator.specs.Bucket.{due_at}
use Rattle.kb_operator.specs.Logged.{TellsTexts}
use Rattle.kb_operator.specs.Logins.{more_lines}
use Rattle.kb_operator.proofs.Logged.{tells_none, tells_more}
use Rattle.kb_operator.proofs.journal.logins.tell_more.Goals as goal

pub returns-then-more-eq0-clause-told : goal.returns-then-more-eq0-clause-told
returns-then-more-eq0-clause-told g c =
    let had = g.T.LineLog.logged c.args.lines.now in
    let none = sym c.due-more.ensures.due ∙ c.if-more-eq0.true in
    subst (λ n. TellsTexts c.args.now (more_lines c.args.words.now n) had had) (sym none) (tells_none c.args.now had)

pub returns-clause-told : goal.returns-clause-told
returns-clause-told g c =
    let had = g.T.LineLog.logged c.args.lines.now in
    let has = g.T.LineLog.logged c.tell.new.self in
    let some : 0 < c.due-more.result = omega arith in
    subst (λ n. TellsTexts c.args.now (more_lines c.args.words.now n) had has) c.due-more.ensures.due
    (tells_more c.args.now c.due-more.result c.args.words.now c.format.result had has some c.format.ensures.ok c.tell.ensures)
