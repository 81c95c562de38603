use Rattle.std.proofs.Common.{take}
use Rattle.kb_store.specs.Disk.{Files}
use Rattle.kb_tenant_state.specs.Parts.{world_of, Agrees}
use Rattle.kb_tenant.proofs.Missing.{Behind}
use Rattle.kb_tenant.proofs.fetch.waits.surely_waits.Given as goal

-- what is missing behind the topics so far, and whether they ask for a partition
abbrev pub invariant-loop-topic : goal.invariant-loop-topic
invariant-loop-topic g l = (files : Files) → Agrees g.L.PartitionLog.log l.parts files
    → Behind (world_of g.L.PartitionLog.log l.parts files) l.request (take l.topic-index l.request.topics) l.missing l.is_asked
