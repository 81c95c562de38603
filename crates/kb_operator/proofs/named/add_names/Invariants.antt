use Rattle.std.proofs.Common.{◌≡◌}
use Rattle.std.specs.FinMap.{keys}
use Rattle.kb_operator.proofs.named.add_names.Given as goal

-- these are the numbers of all files
abbrev pub invariant-loop-file : goal.invariant-loop-file
invariant-loop-file g l = l.listed ≡ keys (g.S.Store.disk l.store).table
