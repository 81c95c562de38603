use Rattle.std.proofs.Common.{◌≡◌, ◌≤◌, length}
use Rattle.kb_store.specs.Disk.{Files}
use Rattle.kb_tenant_state.specs.Parts.{world_of}
use Rattle.kb_tenant.specs.OffsetFetch.{told_in}
use Rattle.kb_tenant.proofs.all_offsets.count_in.Given as goal

-- what was counted are the partitions so far that the group committed to
abbrev pub invariant-loop-number : goal.invariant-loop-number
invariant-loop-number g l = record {
  counted : (files : Files) → l.count ≡ length (told_in (world_of g.L.PartitionLog.log l.parts files) l.group l.instance l.number);
  few : l.count ≤ l.number;
}
