use Rattle.std.proofs.Common.{◌∙◌, ◌≤◌, length, ap, arith}
use Rattle.std.specs.List.{flat_map}
use Rattle.std.proofs.lemmas.List.{take_all}
use Rattle.kb_settings.specs.Names.{in_order}
use Rattle.kb_metrics.specs.Gauges.{groups_at}
use Rattle.kb_metrics.proofs.Groups.{in_order-same}
use Rattle.kb_metrics.proofs.lag.groups_in.Goals as goal

pub returns : goal.returns
returns c =
    let items = c.args.topic.now.partitions in
    let all : length items ≤ c.loop-partition.partition-index =
    omega (arith, c.loop-partition-test.false, ap length c.partitions-partition-items.ensures) in
    c.in_order.ensures ∙ in_order-same _ _ c.loop-partition.invariant
    ∙ ap (λ ps. in_order (flat_map groups_at ps)) (take_all c.loop-partition.partition-index items all)
