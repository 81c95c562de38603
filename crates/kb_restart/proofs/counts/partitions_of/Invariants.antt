use Rattle.std.proofs.Common.{◌≡◌, ◌≤◌, ◌+◌, ℕ}
use Rattle.std.specs.List.{sum_by}
use Rattle.kb_topics.specs.Known.{TopicState}
use Rattle.kb_tenant_state.specs.Tied.{partition_count}
use Rattle.kb_restart.specs.Counts.{told}
use Rattle.kb_restart.proofs.counts.partitions_of.Given as goal

-- what was counted, and what is still to come, is all
abbrev pub invariant-loop-topic : goal.invariant-loop-topic
invariant-loop-topic l =
    let size = λ (e : ℕ × TopicState). partition_count e.1 in
    record {
      all : told (l.partitions + sum_by size l.topic-iterator) ≡ told (sum_by size l.initial.topic-iterator);
      within : l.partitions ≤ 18446744073709551615;
    }
