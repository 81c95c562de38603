use Rattle.std.proofs.Common.{◌≡◌, ◌++◌, map}
use Rattle.std.specs.List.{flat_map, range_with_len}
use Rattle.kb_metrics.specs.Gauges.{commits_in}
use Rattle.kb_metrics.specs.Rows.{commit_row}
use Rattle.kb_metrics.proofs.gather.push_topic_commits.Given as goal

-- the rows of the partitions so far
abbrev pub invariant-loop-number : goal.invariant-loop-number
invariant-loop-number l = map commit_row l.rows.items ≡ map commit_row l.fn.rows.items ++ flat_map (commits_in l.topic) (range_with_len 0 l.number)
