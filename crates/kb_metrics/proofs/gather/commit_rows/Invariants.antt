use Rattle.std.proofs.Common.{◌≡◌, ◌++◌, map}
use Rattle.std.specs.List.{flat_map}
use Rattle.kb_metrics.specs.Gauges.{topic_commits}
use Rattle.kb_metrics.specs.Rows.{commit_row}
use Rattle.kb_metrics.proofs.gather.commit_rows.Given as goal

-- the rows of the topics so far, and those of the topics that are still to come, are all
abbrev pub invariant-loop-topic : goal.invariant-loop-topic
invariant-loop-topic g l =
    map commit_row l.rows.items ++ flat_map (λ t. topic_commits t.1) l.topic-iterator ≡ flat_map (λ t. topic_commits t.1) l.initial.topic-iterator
