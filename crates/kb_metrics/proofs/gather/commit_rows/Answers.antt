use Rattle.std.proofs.Common.{◌∙◌, ◌++◌, ℕ, List, map, sym, ap}
use Rattle.std.specs.List.{flat_map}
use Rattle.std.proofs.lemmas.List.{append-nil}
use Rattle.kb_topics.specs.Known.{TopicState}
use Rattle.kb_metrics.specs.Gauges.{topic_commits}
use Rattle.kb_metrics.specs.Rows.{Commit, commit_row}
use Rattle.kb_metrics.proofs.gather.commit_rows.Goals as goal

abbrev of_topic : ℕ × TopicState → List Commit
of_topic t = topic_commits t.1

pub returns : goal.returns
returns g c files =
    let rows = map commit_row c.loop-topic.rows.items in
    sym (append-nil rows) ∙ ap (λ ts. rows ++ flat_map of_topic ts) (sym c.in-None.ensures.steps.0) ∙ c.loop-topic.invariant
    ∙ ap (flat_map of_topic) (c.into_iter-topic-iterator.ensures.into_iter_gives ∙ c.topics-topic-items.ensures files)
