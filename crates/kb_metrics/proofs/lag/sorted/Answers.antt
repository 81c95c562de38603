use Rattle.std.proofs.lemmas.List.Filters.{dedup_is}
use Rattle.kb_settings.proofs.NamesInOrder.{sorted-in_order}
use Rattle.kb_metrics.proofs.lag.sorted.Goals as goal

pub returns : goal.returns
returns c =
    sorted-in_order (λ name. name.now) c.args.names.items c.sort_unstable.new.self.items _ c.sort_unstable.ensures.permutation c.sort_unstable.ensures.sorted (dedup_is _ _ _ c.dedup.ensures.filtered)
