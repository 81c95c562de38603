use Rattle.std.proofs.Common.{◌≡◌, ◌∙◌, ◌+◌, ℕ, List, ap, arith}
use Rattle.std.specs.List.{sum_by}
use Rattle.kb_topics.specs.Known.{TopicState}
use Rattle.kb_tenant_state.specs.Tied.{partition_count}
use Rattle.kb_restart.specs.Counts.{told}
use Rattle.kb_restart.proofs.Counted.{no_files}
use Rattle.kb_restart.proofs.counts.partitions_of.Goals as goal

pub returns : goal.returns
returns c =
    let size = λ (e : ℕ × TopicState). partition_count e.1 in
    let left = c.loop-topic.topic-iterator in
    let within = c.loop-topic.invariant.within in
    let ended : sum_by size left ≡ 0 = ap (sum_by size) c.in-None.ensures.steps.0 in
    let last : c.loop-topic.partitions ≡ told (c.loop-topic.partitions + sum_by size left) = omega (arith, within, ended) in
    last ∙ c.loop-topic.invariant.all
    ∙ ap (λ (ts : List (ℕ × TopicState)). told (sum_by size ts)) (c.into_iter-topic-iterator.ensures.into_iter_gives ∙ c.topics-topic-items.ensures no_files)
