use Rattle.std.proofs.Common.{◌≡◌, ◌∙◌, ◌++◌, length, map, ap, arith}
use Rattle.std.specs.List.{flat_map, range_with_len}
use Rattle.kb_metrics.specs.Gauges.{commits_in}
use Rattle.kb_metrics.specs.Rows.{commit_row}
use Rattle.kb_metrics.proofs.Steps.{number_more}
use Rattle.kb_metrics.proofs.gather.push_topic_commits.Goals as goal

pub loop-number-preserved : goal.loop-number-preserved
loop-number-preserved c =
    number_more (commits_in c.args.topic.now) (map commit_row c.args.rows.now.items) (map commit_row c.loop-number.rows.items)
    (map commit_row c.push_commits_in.new.rows.items) c.loop-number.number c.loop-number.invariant c.in_ok-push_commits_in.ensures

pub returns : goal.returns
returns c =
    let same : c.loop-number.number ≡ length c.partitions-number-end.result.now = omega (arith, c.loop-number-test.false, c.loop-number.auto.number-end) in
    c.loop-number.invariant
    ∙ ap (λ n. map commit_row c.args.rows.now.items ++ flat_map (commits_in c.args.topic.now) (range_with_len 0 n))
    (same ∙ ap length c.partitions-number-end.ensures)
