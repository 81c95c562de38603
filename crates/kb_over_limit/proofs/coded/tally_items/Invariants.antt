use Rattle.kb_over_limit.proofs.Loop.{IsSoFar}
use Rattle.kb_over_limit.proofs.coded.tally_items.Given as goal

-- so many items were read, and their entries counted
abbrev pub invariant-loop : goal.invariant-loop
invariant-loop g l = IsSoFar g.T.Coded.codec g.T.Coded.tallied l.count l.fn.cursor l.fn.tally l.counter l.cursor l.tally
