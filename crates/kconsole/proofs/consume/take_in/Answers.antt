use Rattle.kconsole.proofs.Giving.{gives_input, prints_taken}
use Rattle.kconsole.proofs.consume.take_in.Goals as goal

pub returns : goal.returns
returns g c =
    prints_taken c.args.core.now c.input-taken.new.self c.print_lines.new.core (g.W.Write.contents c.args.writer.now) (g.W.Write.contents c.print_lines.new.writer)
    (gives_input c.args.core.now c.input-taken.new.self c.args.piece.now c.input-taken.result _ c.input-taken.ensures c.in_ok-taken.was)
    c.in_ok-print_lines.ensures.printed c.in_ok-print_lines.ensures.taken
