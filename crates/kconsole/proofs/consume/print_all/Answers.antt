use Rattle.std.proofs.Common.{◌∙◌, sym}
use Rattle.kconsole.proofs.Giving.{gives_nothing, prints_nothing, prints_both}
use Rattle.kconsole.proofs.consume.print_all.Goals as goal

pub loop-init : goal.loop-init
loop-init g c = prints_nothing c.args.core.now c.args.core.now (g.W.Write.contents c.args.writer.now) (gives_nothing c.args.core.now)

pub returns-then-finished : goal.returns-then-finished
returns-then-finished g c = record { new = c.loop.core; prints = c.loop.invariant; finished = sym c.finished.ensures ∙ c.if-finished.true }

pub loop-preserved : goal.loop-preserved
loop-preserved g c =
    prints_both c.args.core.now c.loop.core c.turn.new.core (g.W.Write.contents c.args.writer.now) (g.W.Write.contents c.loop.writer) (g.W.Write.contents c.turn.new.writer)
    c.loop.invariant c.in_ok-turn.ensures
