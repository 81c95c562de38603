use Rattle.std.proofs.Common.{◌≡◌, length}
use Rattle.kb_producers.specs.Table.{since}
use Rattle.kb_producers.proofs.table.ProducerTable.dropped_below.Given as goal

abbrev pub invariant-loop-first : goal.invariant-loop-first
invariant-loop-first l = since l.start l.self.kept ≡ since l.start l.initial.self.kept

abbrev pub decreases-loop-first : goal.decreases-loop-first
decreases-loop-first l = length l.self.kept
