use Rattle.kb_tenant_state.specs.Stored.{partitions_in}
use Rattle.kb_tenant_state.specs.Parts.{world_of}
use Rattle.kb_tenant.proofs.create_topics.room.partitions_left.Goals as goal

pub returns : goal.returns
returns g c = λ files. c.left_of.ensures.most (partitions_in (world_of g.L.PartitionLog.log c.args.parts.now files).known) c.partition_count.ensures
