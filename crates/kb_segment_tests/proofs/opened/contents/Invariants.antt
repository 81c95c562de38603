use Rattle.std.proofs.Common.{length}
use Rattle.std.specs.List.{All}
use Rattle.kb_store.specs.Disk.{IsThere}
use Rattle.kb_segment_tests.proofs.opened.contents.Given as goal

-- the files that are left are there
abbrev pub invariant-loop-file : goal.invariant-loop-file
invariant-loop-file g l = All (λ n. IsThere (g.S.Store.disk l.store) n) l.rest

abbrev pub decreases-loop-file : goal.decreases-loop-file
decreases-loop-file g l = length l.rest
