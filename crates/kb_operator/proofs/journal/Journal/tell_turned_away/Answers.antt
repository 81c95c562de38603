use Rattle.std.proofs.Common.{◌<◌, ◌∙◌, arith, inl, inr, refl, sym}
use Rattle.kb_operator.proofs.Made.{no_item}
use Rattle.kb_operator.proofs.ToldCounts.{some_turned_away, told_turned_away}
use Rattle.kb_operator.proofs.journal.Journal.tell_turned_away.Goals as goal

pub returns-in-Err : goal.returns-in-Err
returns-in-Err g c =
    let self = c.args.self.now in
    let some : 0 < self.turned_away = omega arith in
    inr (record {
      some = λ none. no_item _ _ (sym (some_turned_away self.turned_away self.connections some) ∙ none);
      line = c.tell-in-Err.ensures;
      others = refl;
    })

pub returns-in-Ok : goal.returns-in-Ok
returns-in-Ok g c =
    let self = c.args.self.now in
    let some : 0 < self.turned_away = omega arith in
    inl (record {
      lines = told_turned_away c.args.now self.turned_away self.connections _ (g.T.LineLog.logged self.lines) (g.T.LineLog.logged c.tell.new.self) some
          c.in-Ok.ensures c.tell.ensures;
      others = refl;
    })
