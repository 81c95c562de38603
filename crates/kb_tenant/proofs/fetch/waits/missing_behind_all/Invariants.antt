use Rattle.std.proofs.Common.{take}
use Rattle.kb_store.specs.Disk.{Files}
use Rattle.kb_tenant.specs.Counted.{fetch_answered, Misses}
use Rattle.kb_tenant.specs.Turns.{in_turn}
use Rattle.kb_tenant.specs.declared.fetch.given.Given.{Given}
use Rattle.kb_tenant_state.specs.Parts.{world_of, Agrees}
use Rattle.kb_tenant.proofs.fetch.waits.missing_behind_all.Given as goal

-- what is missing behind the entries so far
abbrev pub invariant-loop-entry : goal.invariant-loop-entry
invariant-loop-entry g l = (files : Files) → Agrees g.L.PartitionLog.log l.parts files → (given : Given) → Misses l.missing given
    → Misses l.left (in_turn (fetch_answered (world_of g.L.PartitionLog.log l.parts files) l.topic) given (take l.entry-index l.entries)).0
