use Rattle.std.proofs.Common.{◌≡◌, ◌∙◌, ◌-◌, ◌+◌, ◌++◌, ◌≤◌, ap, arith, subst, take}
use Rattle.kb_operator.specs.Logged.{MakesText, texts_of}
use Rattle.kb_operator.specs.Refused.{in_thirties, refused_line, refused_lines}
use Rattle.kb_operator.specs.Report.{bytes_of_each}
use Rattle.kb_operator.proofs.Made.{makes_none, some_text}
use Rattle.kb_operator.proofs.Thirties.{refused_all, refused_next}
use Rattle.kb_operator.proofs.journal.refusals.refused_texts.Goals as goal

pub loop-line-init : goal.loop-line-init
loop-line-init g c =
    let all : c.line_count-count.result - 0 ≡ c.line_count-count.result = omega arith in
    let lines = refused_lines (g.B.RefusalCounts.counts c.args.broker.now).refused c.args.others.unbound c.args.others.disk c.args.others.whose.now in
    let tenants = c.args.tenants.now in
    ap (λ xs. bytes_of_each xs ++ lines (in_thirties (c.line_count-count.result - 0) tenants)) c.new-texts.ensures.items
    ∙ ap (λ n. lines (in_thirties n tenants)) all

pub loop-line-preserved : goal.loop-line-preserved
loop-line-preserved g c =
    let before = c.loop-line in
    let refused = (g.B.RefusalCounts.counts c.args.broker.now).refused in
    let disk = c.args.others.disk in
    let whose = c.args.others.whose.now in
    let left = c.line_count-count.result - (before._line + 1) in
    let texts = bytes_of_each before.texts.items in
    let wanted = refused_line refused before.unbound disk whose (take 30 before.rest.now) in
    let made : MakesText wanted c.refusals_text.result =
    subst (λ ts. MakesText (refused_line refused before.unbound disk whose ts) c.refusals_text.result) c.first_of.ensures c.refusals_text.ensures in
    ap (λ xs. xs ++ refused_lines refused 0 disk whose (in_thirties left c.behind-rest.result.now)) (c.in_ok-push_if.ensures.ok wanted made)
    ∙ ap (λ ts. (texts ++ texts_of wanted) ++ refused_lines refused 0 disk whose (in_thirties left ts)) c.behind-rest.ensures
    ∙ refused_next refused before.unbound disk whose c.line_count-count.result before._line texts _ before.rest.now c.loop-line-test.true before.invariant

pub returns-in_err-push_if : goal.returns-in_err-push_if
returns-in_err-push_if g c =
    let before = c.loop-line in
    let refused = (g.B.RefusalCounts.counts c.args.broker.now).refused in
    let disk = c.args.others.disk in
    let whose = c.args.others.whose.now in
    let count = c.line_count-count.result in
    let wanted = refused_line refused before.unbound disk whose (take 30 before.rest.now) in
    let made : MakesText wanted c.refusals_text.result =
    subst (λ ts. MakesText (refused_line refused before.unbound disk whose ts) c.refusals_text.result) c.first_of.ensures c.refusals_text.ensures in
    makes_none _ c.from_residual.result c.from_residual.ensures.0
    (some_text (bytes_of_each before.texts.items) _ _ wanted (c.in_err-push_if.ensures.err wanted made)
    (refused_next refused before.unbound disk whose count before._line (bytes_of_each before.texts.items) _ before.rest.now c.loop-line-test.true
    before.invariant
    ∙ ap (λ n. refused_lines refused c.args.others.unbound disk whose (in_thirties n c.args.tenants.now)) c.line_count-count.ensures))

pub returns : goal.returns
returns g c =
    let at = c.loop-line in
    let count = c.line_count-count.result in
    let end : count ≤ at._line = omega arith in
    let refused = (g.B.RefusalCounts.counts c.args.broker.now).refused in
    let disk = c.args.others.disk in
    let whose = c.args.others.whose.now in
    refused_all refused at.unbound disk whose count at._line (bytes_of_each at.texts.items) _ at.rest.now end at.invariant
    ∙ ap (λ n. refused_lines refused c.args.others.unbound disk whose (in_thirties n c.args.tenants.now)) c.line_count-count.ensures
