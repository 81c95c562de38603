use Rattle.std.specs.Io.KnownBytes.{Keeps}
use Rattle.kb_node.proofs.transfer.read_from.Given as goal

-- what is left to read is as before
abbrev pub invariant-loop : goal.invariant-loop
invariant-loop g l = Keeps (g.T.Read.remaining l.fn.stream) (g.T.Read.remaining l.stream)
