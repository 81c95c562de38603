use Rattle.std.proofs.Common.{◌≡◌, drop}
use Rattle.kb_store.specs.Disk.{Files}
use Rattle.kb_tenant.specs.CreateTopics.{checked_topic, creation_in}
use Rattle.kb_tenant_state.specs.Parts.{world_of}
use Rattle.kb_tenant.specs.Turns.{in_turn, written_behind}
use Rattle.kb_tenant.proofs.create_topics.check_topics.Given as goal

-- what was checked and written, and what is still to be, is all
abbrev pub invariant-loop-topic : goal.invariant-loop-topic
invariant-loop-topic g l =
    (files : Files) →
    let f = checked_topic l.limits l.entries (world_of g.L.PartitionLog.log l.parts files) in
    let write = creation_in l.version in
    written_behind write l.sink.bytes (in_turn f l.room (drop l.topic-index l.entries)) ≡ written_behind write l.initial.sink.bytes (in_turn f l.initial.room l.entries)
