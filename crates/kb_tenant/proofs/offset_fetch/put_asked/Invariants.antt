use Rattle.std.proofs.Common.{◌≡◌, map, drop}
use Rattle.kb_store.specs.Disk.{Files}
use Rattle.kb_tenant_state.specs.Parts.{world_of}
use Rattle.kb_tenant.specs.OffsetFetch.{fetched_topic, topic_reply}
use Rattle.kb_tenant.specs.Replies.{written_until}
use Rattle.kb_tenant.proofs.offset_fetch.put_asked.Given as goal

-- what was written, and what the rest is still to be answered, is the whole answer
abbrev pub invariant-loop-topic : goal.invariant-loop-topic
invariant-loop-topic g l =
    let write = (topic_reply l.has_epochs).written in
    (files : Files) → let f = fetched_topic (world_of g.L.PartitionLog.log l.parts files) l.group in
    written_until l.most write l.sink.bytes (map f (drop l.topic-index l.topics)) ≡ written_until l.most write l.initial.sink.bytes (map f l.topics)
