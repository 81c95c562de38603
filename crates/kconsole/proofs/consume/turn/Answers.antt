use Rattle.std.proofs.lemmas.Result.{on_ok_weaker}
use Rattle.kconsole.proofs.Giving.{prints_both, prints_nothing}
use Rattle.kconsole.proofs.consume.turn.Goals as goal

pub returns-then-not-branch : goal.returns-then-not-branch
returns-then-not-branch g c = prints_nothing c.args.core.now c.ask.new.core (g.W.Write.contents c.args.writer.now) c.in_ok-ask.ensures

pub returns-then-n-eq0 : goal.returns-then-n-eq0
returns-then-n-eq0 g c = prints_nothing c.args.core.now c.ask.new.core (g.W.Write.contents c.args.writer.now) c.in_ok-ask.ensures

pub returns : goal.returns
returns g c =
    let before = g.W.Write.contents c.args.writer.now in
    on_ok_weaker c.take_in.result (λ h.
    prints_both c.args.core.now c.ask.new.core c.take_in.new.core before before (g.W.Write.contents c.take_in.new.writer)
    (prints_nothing c.args.core.now c.ask.new.core before c.in_ok-ask.ensures) h)
    c.take_in.ensures
