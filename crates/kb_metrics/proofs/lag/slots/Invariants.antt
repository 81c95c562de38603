use Rattle.std.proofs.Common.{◌≡◌, map}
use Rattle.std.specs.List.{All, range_with_len}
use Rattle.kb_store.specs.Disk.{Files}
use Rattle.kb_tenant_state.specs.Parts.{world_of}
use Rattle.kb_metrics.specs.Slots.{AreCommitted, slot_at, slot_of}
use Rattle.kb_metrics.proofs.lag.slots.Given as goal

-- the partitions so far, and what is kept of them
abbrev pub invariant-loop-number : goal.invariant-loop-number
invariant-loop-number g l = record {
  seen : (files : Files)
      → map slot_of l.slots.items ≡ map (slot_at (world_of g.L.PartitionLog.log l.parts files) l.instance) (range_with_len 0 l.number);
  kept : All (AreCommitted (map (λ g. g.now) l.groups)) l.slots.items;
}
