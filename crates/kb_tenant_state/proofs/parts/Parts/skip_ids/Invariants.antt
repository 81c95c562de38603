use Rattle.std.proofs.Common.{◌≡◌, ◌≤◌}
use Rattle.kb_tenant_state.specs.Parts.{scene}
use Rattle.kb_tenant_state.proofs.SkippedIds.{IsAfter}
use Rattle.kb_tenant_state.proofs.parts.Parts.skip_ids.Given as goal

-- so many were given out
abbrev pub invariant-loop : goal.invariant-loop
invariant-loop g l = record {
  after : IsAfter (scene g.L.PartitionLog.log g.S.Store.disk l.fn.self l.fn.shelf) (scene g.L.PartitionLog.log g.S.Store.disk l.self l.shelf) l.counter;
  fixed : l.self ≡ record l.fn.self { catalog = l.self.catalog; partitions = l.self.partitions; refusals = l.self.refusals };
  most : l.counter ≤ l.lost;
}
