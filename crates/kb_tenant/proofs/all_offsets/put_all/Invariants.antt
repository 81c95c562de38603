use Rattle.std.proofs.Common.{◌≡◌}
use Rattle.std.specs.List.{flat_map}
use Rattle.kb_store.specs.Disk.{Files}
use Rattle.kb_tenant_state.specs.Parts.{world_of}
use Rattle.kb_tenant.specs.OffsetFetch.{topic_reply, topic_told}
use Rattle.kb_tenant.specs.Replies.{written_until}
use Rattle.kb_tenant.proofs.all_offsets.put_all.Given as goal

-- what was written, and what is still to come, is all
abbrev pub invariant-loop-instance : goal.invariant-loop-instance
invariant-loop-instance g l =
    let write = (topic_reply l.has_epochs).written in
    (files : Files) → let f = topic_told (world_of g.L.PartitionLog.log l.parts files) l.group in
    written_until l.most write l.sink.bytes (flat_map f l.instance-iterator) ≡ written_until l.most write l.initial.sink.bytes (flat_map f l.initial.instance-iterator)
