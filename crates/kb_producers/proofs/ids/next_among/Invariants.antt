use Rattle.std.proofs.Common.{◌≡◌, drop, map}
use Rattle.std.specs.Prelude.{fold, max}
use Rattle.kb_producers.specs.Ids.{behind, ids_kept}
use Rattle.kb_producers.specs.Table.{kept_from}
use Rattle.kb_producers.proofs.ids.next_among.Given as goal

-- from the greatest so far on, with the batches that are still to come
abbrev pub invariant-loop-batch : goal.invariant-loop-batch
invariant-loop-batch l = fold max l.next (map behind (ids_kept (map kept_from (drop l.batch-index l.batches)))) ≡ fold max l.from (map behind (ids_kept (map kept_from l.batches)))
