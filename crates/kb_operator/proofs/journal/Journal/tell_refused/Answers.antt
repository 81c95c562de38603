use Rattle.std.proofs.Common.{◌≢◌, ◌∙◌, [], ℕ, List, ap, inl, inr, map, refl, rules, subst}
use Rattle.kb_operator.specs.Logged.{Grows, lines_at}
use Rattle.kb_operator.specs.Refused.{with_refused}
use Rattle.kb_operator.proofs.ToldRefused.{due_refused}
use Rattle.kb_operator.proofs.Made.{marked_items}
use Rattle.kb_operator.proofs.journal.Journal.tell_refused.Goals as goal

pub returns-in-Err : goal.returns-in-Err
returns-in-Err g c =
    let counts = g.B.RefusalCounts.counts c.args.broker.now in
    let due = due_refused counts c.args.self.now c.others-others.result.unbound c.others-others.result.disk c.others-others.result.whose.now c.deref.result.now
    c.others-others.ensures.unbound c.others-others.ensures.disk c.others-others.ensures.whose c.deref.ensures.value in
    inr (record {
      some = subst (λ ts. ts ≢ []) due c.in-Err.ensures;
      line = c.tell.ensures;
      others = refl;
    })

pub returns-in-Ok : goal.returns-in-Ok
returns-in-Ok g c =
    let logged = g.T.LineLog.logged in
    let self = c.args.self.now in
    let counts = g.B.RefusalCounts.counts c.args.broker.now in
    let due = due_refused counts self c.others-others.result.unbound c.others-others.result.disk c.others-others.result.whose.now c.deref.result.now
    c.others-others.ensures.unbound c.others-others.ensures.disk c.others-others.ensures.whose c.deref.ensures.value in
    let grown : List (List ℕ) → Type 0 = λ ts. Grows (logged self.lines) (logged c.tell_each.new.lines) (lines_at c.args.now ts) in
    inl (record {
      lines = subst grown due (subst grown c.in-Ok.ensures c.tell_each.ensures);
      tenants = marked_items (with_refused counts.refused) self.tenants c.count_as_told.new.tenants (c.count_as_told.ensures ∙ ap (map (with_refused counts.refused)) c.deref_mut.ensures.value);
      others = search rules;
    })
