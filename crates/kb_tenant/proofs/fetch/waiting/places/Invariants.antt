use Rattle.std.proofs.Common.{◌≡◌, take}
use Rattle.kb_store.specs.Disk.{Files}
use Rattle.kb_tenant.specs.Fetch.{places_of}
use Rattle.kb_tenant_state.specs.Parts.{world_of}
use Rattle.kb_tenant.proofs.fetch.waiting.places.Given as goal

-- the places of the topics so far
abbrev pub invariant-loop-topic : goal.invariant-loop-topic
invariant-loop-topic g l = (files : Files) → l.places.items ≡ places_of (world_of g.L.PartitionLog.log l.parts files) (record l.request { topics = take l.topic-index l.request.topics })
