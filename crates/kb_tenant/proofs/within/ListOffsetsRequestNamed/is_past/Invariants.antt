use Rattle.std.proofs.Common.{◌≡◌, ◌+◌, take}
use Rattle.std.specs.List.{sum_by}
use Rattle.kb_api_data.specs.declared.list_offsets.ListOffsetsTopic.{ListOffsetsTopic}
use Rattle.kb_tenant.specs.Entries.{listing_weight, with_entries}
use Rattle.kb_tenant.proofs.within.ListOffsetsRequestNamed.is_past.Given as goal

-- what was counted, and what is left, is the limit
abbrev pub invariant-loop-topic : goal.invariant-loop-topic
invariant-loop-topic l =
    with_entries (λ (t : ListOffsetsTopic). sum_by listing_weight t.partitions) (take l.topic-index l.self.topics) + l.left ≡ l.limit
