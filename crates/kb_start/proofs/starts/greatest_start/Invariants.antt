use Rattle.std.proofs.Common.{◌≡◌, drop}
use Rattle.kb_start.specs.Starts.{greatest_start, greatest_with}
use Rattle.kb_start.proofs.starts.greatest_start.Given as goal

-- with the starts that are left it is the whole
abbrev pub invariant-loop-start : goal.invariant-loop-start
invariant-loop-start l = greatest_with l.instance l.partition l.greatest (drop l.start-index l.starts) ≡ greatest_start l.instance l.partition l.starts
