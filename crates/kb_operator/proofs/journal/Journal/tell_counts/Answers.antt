use Rattle.std.proofs.Common.{◌∙◌, ◌+◌, ap, if◌then◌else◌, sym}
use Rattle.kb_operator.proofs.ToldCounts.{counts_told}
use Rattle.kb_operator.proofs.journal.Journal.tell_counts.Goals as goal

pub returns : goal.returns
returns g c =
    let old = c.args.self.now in
    counts_told g.T.LineLog.logged c.args.now c.args.moment c.args.turned_away c.saturating_add-self.result (g.B.RefusalCounts.counts c.args.broker.now)
    old c.tell_turned_away.new.self c.tell_closed.new.self c.tell_unread.new.self c.tell_refusals.new.self c.is_due.new.self c.catch_up.new.self
    c.if-self.false (sym c.is_due.ensures.due ∙ c.if-not-is_due.false) c.saturating_add-self.ensures
    (c.is_due.ensures.next ∙ ap (λ b. if b then c.args.moment + 1000 else old.pace.next) c.if-not-is_due.false)
    c.catch_up.ensures c.tell_turned_away.ensures c.tell_closed.ensures c.tell_unread.ensures c.tell_refusals.ensures
