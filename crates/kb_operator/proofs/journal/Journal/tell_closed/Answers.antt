use Rattle.std.proofs.Common.{◌≢◌, ◌∙◌, [], ℕ, List, ap, inl, inr, map, refl, rules, subst}
use Rattle.kb_operator.specs.Logged.{Grows, lines_at}
use Rattle.kb_operator.specs.declared.journal.Tenant.{Tenant}
use Rattle.kb_operator.specs.Refused.{closed_lines, in_lines, with_closed}
use Rattle.kb_operator.proofs.Made.{marked_items}
use Rattle.kb_operator.proofs.journal.Journal.tell_closed.Goals as goal

pub returns-in-Err : goal.returns-in-Err
returns-in-Err g c =
    let due : List Tenant → List (List ℕ) = λ ts. closed_lines (g.B.RefusalCounts.counts c.args.broker.now).closed c.args.self.now.closed (in_lines ts) in
    inr (record {
      some = subst (λ ts. due ts ≢ []) c.deref.ensures.value c.in-Err.ensures;
      line = c.tell.ensures;
      others = refl;
    })

pub returns-in-Ok : goal.returns-in-Ok
returns-in-Ok g c =
    let logged = g.T.LineLog.logged in
    let self = c.args.self.now in
    let due : List Tenant → List (List ℕ) = λ ts. closed_lines (g.B.RefusalCounts.counts c.args.broker.now).closed c.args.self.now.closed (in_lines ts) in
    let grown : List (List ℕ) → Type 0 = λ ts. Grows (logged self.lines) (logged c.tell_each.new.lines) (lines_at c.args.now ts) in
    inl (record {
      lines = subst (λ ts. grown (due ts)) c.deref.ensures.value (subst grown c.in-Ok.ensures c.tell_each.ensures);
      tenants = marked_items (with_closed (g.B.RefusalCounts.counts c.args.broker.now).closed) self.tenants c.count_as_told.new.tenants (c.count_as_told.ensures ∙ ap (map (with_closed (g.B.RefusalCounts.counts c.args.broker.now).closed)) c.deref_mut.ensures.value);
      others = search rules;
    })
