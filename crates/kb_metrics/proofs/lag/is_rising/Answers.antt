use Rattle.std.proofs.Common.{rules, tests}
use Rattle.std.proofs.lemmas.List.Sorted.{answers_always}
use Rattle.kb_metrics.proofs.Rising.{decided, is_below}
use Rattle.kb_metrics.proofs.lag.is_rising.Goals as goal

pub returns : goal.returns
returns c =
    let each = answers_always _ _ _ (λ f a r f' k. search (rules, tests)) in
    decided c.args.names.now c.is_sorted_by.result (c.is_sorted_by.ensures.cases is_below each)
