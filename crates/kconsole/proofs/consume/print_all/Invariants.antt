use Rattle.kconsole.specs.Printing.{Prints}
use Rattle.kconsole.proofs.consume.print_all.Given as goal

-- what was given so far was printed
abbrev pub invariant-loop : goal.invariant-loop
invariant-loop g l = Prints l.initial.core (g.W.Write.contents l.initial.writer) (g.W.Write.contents l.writer) l.core
