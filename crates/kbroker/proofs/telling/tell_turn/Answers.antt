use Rattle.std.proofs.Common.{◌∙◌, ap, subst}
use Rattle.std.specs.Prelude.{◌/◌}
use Rattle.kb_node.specs.declared.news.News.{News}
use Rattle.kb_operator.specs.Refused.{MayTellCounts, closed_with}
use Rattle.kbroker.specs.Counted.{told_counts}
use Rattle.kbroker.specs.Telling.{TellsRight, TellsShuts, TellsWrong}
use Rattle.kbroker.proofs.telling.tell_turn.Goals as goal

pub returns : goal.returns
returns g c =
    let logged = g.T.LineLog.logged in
    let now = c.now-now.result in
    let moment = c.args.tick.moment in
    let second = moment / 1000 in
    let edge = c.args.edge.now in
    let news = c.news-news.result.now in
    let start = c.args.journal.now in
    let right = c.tell_logins.new.journal in
    let wrong = c.tell_denied.new.journal in
    let shut = c.tell_closed.new.journal in
    let clock = c.tell_notice.new.journal in
    let end = c.tell_counts.new.self in
    let refused = c.refused_sockets.result.now in
    let waits = c.reader_waits.result.now in
    let counts = ap (λ b. told_counts b.state b.counts (g.S.Store.disk b.store).failures refused waits) c.broker-2.ensures
    ∙ ap (λ r. told_counts edge.host.broker.state edge.host.broker.counts (g.S.Store.disk edge.host.broker.store).failures r waits) c.refused_sockets.ensures
    ∙ ap (λ w. told_counts edge.host.broker.state edge.host.broker.counts (g.S.Store.disk edge.host.broker.store).failures edge.shares.refused w) c.reader_waits.ensures in
    let silent = c.count_closed.ensures ∙ ap (λ s. record clock { closed = closed_with clock.closed s }) c.silent_in.ensures in
    let request_bytes = c.request_bytes-request_bytes.ensures.value ∙ ap (λ b. b.state.setup.request_bytes) c.broker.ensures in (
      now,
      record {
        behind_right = right;
        behind_wrong = wrong;
        behind_shut = shut;
        behind_passed = c.tell_passed_over.new.self;
        behind_clock = clock;
        right = subst (λ (n : News). TellsRight logged now second n.logins start right) c.news-news.ensures c.tell_logins.ensures;
        wrong = subst (λ (n : News). TellsWrong logged now second n.denied right wrong) c.news-news.ensures c.tell_denied.ensures;
        shut = subst (λ (n : News). TellsShuts logged now second edge.host.broker.state.setup.request_bytes n.closed wrong shut) c.news-news.ensures
            (subst (λ most. TellsShuts logged now second most news.closed wrong shut) request_bytes c.tell_closed.ensures);
        passed = c.tell_passed_over.ensures;
        clock = c.tell_notice.ensures;
        counted = subst (λ j. MayTellCounts logged now moment c.args.turn.now.turned_away (told_counts edge.host.broker.state edge.host.broker.counts
            (g.S.Store.disk edge.host.broker.store).failures edge.shares.refused edge.reader_waits.items) j end) silent
            (subst (λ k. MayTellCounts logged now moment c.args.turn.now.turned_away k c.count_closed.new.self end) counts c.tell_counts.ensures);
      },
    )
