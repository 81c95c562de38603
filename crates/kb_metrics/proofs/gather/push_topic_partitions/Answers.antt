use Rattle.std.proofs.Common.{◌≡◌, ◌∙◌, ◌++◌, length, map, ap, arith}
use Rattle.std.specs.List.{flat_map, range_with_len}
use Rattle.kb_tenant_state.specs.Parts.{world_of}
use Rattle.kb_metrics.specs.Gauges.{partition_of}
use Rattle.kb_metrics.specs.Rows.{partition_row}
use Rattle.kb_metrics.proofs.Steps.{number_more}
use Rattle.kb_metrics.proofs.gather.push_topic_partitions.Goals as goal

pub loop-number-preserved : goal.loop-number-preserved
loop-number-preserved g c files =
    number_more (partition_of (world_of g.L.PartitionLog.log c.args.parts.now files) (c.args.instance, c.args.topic.now))
    (map partition_row c.args.rows.now.items) (map partition_row c.loop-number.rows.items) (map partition_row c.push_partition.new.rows.items)
    c.loop-number.number (c.loop-number.invariant files) (c.in_ok-push_partition.ensures files)

pub returns : goal.returns
returns g c files =
    let T = partition_of (world_of g.L.PartitionLog.log c.args.parts.now files) (c.args.instance, c.args.topic.now) in
    let same : c.loop-number.number ≡ length c.partitions-number-end.result.now = omega (arith, c.loop-number-test.false, c.loop-number.auto.number-end) in
    c.loop-number.invariant files
    ∙ ap (λ n. map partition_row c.args.rows.now.items ++ flat_map T (range_with_len 0 n)) (same ∙ ap length c.partitions-number-end.ensures)
