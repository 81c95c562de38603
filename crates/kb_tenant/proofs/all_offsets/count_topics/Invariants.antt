use Rattle.std.proofs.Common.{◌≡◌, ◌<◌, ◌^◌, ◌+◌, length}
use Rattle.std.specs.List.{flat_map}
use Rattle.kb_store.specs.Disk.{Files}
use Rattle.kb_tenant_state.specs.Parts.{world_of}
use Rattle.kb_tenant.specs.OffsetFetch.{topic_told}
use Rattle.kb_tenant.proofs.all_offsets.count_topics.Given as goal

-- what was counted, and what is still to come, is all
abbrev pub invariant-loop-instance : goal.invariant-loop-instance
invariant-loop-instance g l = record {
  counted : (files : Files) → let f = topic_told (world_of g.L.PartitionLog.log l.parts files) l.group in
      l.count + length (flat_map f l.instance-iterator) ≡ length (flat_map f l.initial.instance-iterator);
  few : l.count < 2 ^ 31;
}
