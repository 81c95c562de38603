use Rattle.kb_log.specs.OnShelf.{on, IsSound}
use Rattle.kb_segment_tests.proofs.cached.fetched_times.Given as goal

abbrev pub invariant-loop-turn : goal.invariant-loop-turn
invariant-loop-turn g l = IsSound (on g.S.Store.disk (g.L.PartitionLog.log l.log) l.shelf)

abbrev pub invariant-loop-again : goal.invariant-loop-again
invariant-loop-again g l = IsSound (on g.S.Store.disk (g.L.PartitionLog.log l.log) l.shelf)
