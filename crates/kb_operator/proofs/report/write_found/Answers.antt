use Rattle.std.proofs.Common.{◌≡◌, ◌∙◌, ◌++◌, None, ap, subst}
use Rattle.std.specs.Io.KnownBytes.{Appends}
use Rattle.kb_start.specs.Verdict.{why_refused}
use Rattle.kb_operator.specs.Report.{lines_text, no_consent, report_lines, report_text, seen_of, verdict_lines}
use Rattle.kb_operator.proofs.Written.{front_of, nothing, on_both, on_err, whole_of}
use Rattle.kb_operator.proofs.report.write_found.Goals as goal

pub returns-in_err-text-clause-err : goal.returns-in_err-text-clause-err
returns-in_err-text-clause-err g c =
    on_err c.from_residual.result (nothing c.args.path.now c.args.held c.args.deleted.now (g.W.Write.contents c.args.writer.now))

pub returns-in_err-push_verdict-clause-err : goal.returns-in_err-push_verdict-clause-err
returns-in_err-push_verdict-clause-err g c =
    on_err c.from_residual-in_err-push_verdict.result (nothing c.args.path.now c.args.held c.args.deleted.now (g.W.Write.contents c.args.writer.now))

pub returns-in_err-write_text-clause-err : goal.returns-in_err-write_text-clause-err
returns-in_err-write_text-clause-err g c =
    let seen = seen_of c.args.found.now in
    let known = lines_text (report_lines c.args.path.now c.args.held c.args.deleted.now seen) in
    let is : c.deref.result.now ≡ report_text c.args.path.now c.args.held c.args.deleted.now seen =
    c.deref.ensures ∙ c.in_ok-push_verdict.ensures ∙ ap (λ x. x ++ lines_text (verdict_lines c.why_refused.result)) c.in_ok-text.ensures
    ∙ ap (λ k. known ++ lines_text (verdict_lines k)) c.why_refused.ensures in
    on_err c.from_residual-in_err-write_text.result (front_of c.args.path.now c.args.held c.args.deleted.now seen c.deref.result.now
    (g.W.Write.contents c.args.writer.now) (g.W.Write.contents c.write_text.new.writer) is c.in_err-write_text.ensures.err)

pub returns-clause-ok : goal.returns-clause-ok
returns-clause-ok g c =
    let seen = seen_of c.args.found.now in
    let known = lines_text (report_lines c.args.path.now c.args.held c.args.deleted.now seen) in
    let is : c.deref.result.now ≡ report_text c.args.path.now c.args.held c.args.deleted.now seen =
    c.deref.ensures ∙ c.in_ok-push_verdict.ensures ∙ ap (λ x. x ++ lines_text (verdict_lines c.why_refused.result)) c.in_ok-text.ensures
    ∙ ap (λ k. known ++ lines_text (verdict_lines k)) c.why_refused.ensures in
    on_both (why_refused no_consent seen.surveyed ≡ None) c.go_on.result c.go_on.ensures.ok (subst (λ t. Appends (g.W.Write.contents c.args.writer.now) (g.W.Write.contents c.write_text.new.writer) t) is
    c.in_ok-write_text.ensures.ok)

pub returns-clause-err : goal.returns-clause-err
returns-clause-err g c =
    let seen = seen_of c.args.found.now in
    let known = lines_text (report_lines c.args.path.now c.args.held c.args.deleted.now seen) in
    let is : c.deref.result.now ≡ report_text c.args.path.now c.args.held c.args.deleted.now seen =
    c.deref.ensures ∙ c.in_ok-push_verdict.ensures ∙ ap (λ x. x ++ lines_text (verdict_lines c.why_refused.result)) c.in_ok-text.ensures
    ∙ ap (λ k. known ++ lines_text (verdict_lines k)) c.why_refused.ensures in
    on_err c.go_on.result (whole_of c.args.path.now c.args.held c.args.deleted.now seen c.deref.result.now
    (g.W.Write.contents c.args.writer.now) (g.W.Write.contents c.write_text.new.writer) is c.in_ok-write_text.ensures.ok)
