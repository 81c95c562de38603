use Rattle.std.proofs.Common.{◌≡◌, ◌++◌, drop}
use Rattle.kb_producers.specs.Batches.{kept_all}
use Rattle.kb_producers.proofs.table.ProducerTable.rebuild.Given as goal

abbrev pub invariant-loop-batch : goal.invariant-loop-batch
invariant-loop-batch l = l.table.kept ++ kept_all (drop l.batch-index l.batches) ≡ kept_all l.batches
