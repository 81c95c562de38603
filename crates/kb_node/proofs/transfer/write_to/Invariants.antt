use Rattle.std.specs.Io.KnownBytes.{Keeps}
use Rattle.kb_node.proofs.transfer.write_to.Given as goal

-- what was written is as before
abbrev pub invariant-loop : goal.invariant-loop
invariant-loop g l = Keeps (g.T.Write.contents l.fn.stream) (g.T.Write.contents l.stream)
