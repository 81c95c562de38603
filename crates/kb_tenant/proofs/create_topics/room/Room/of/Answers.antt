use Rattle.std.proofs.Common.{◌∙◌, ap, length}
use Rattle.kb_tenant_state.specs.Parts.{world_of}
use Rattle.kb_tenant.specs.declared.create_topics.room.Room.{Room}
use Rattle.kb_tenant.proofs.create_topics.room.Room.of.Goals as goal

pub returns : goal.returns
returns g c = λ files.
    let k = (world_of g.L.PartitionLog.log c.args.parts.now files).known in
    ap (λ n. let r : Room = record { topics = n; partitions = c.partitions_left.result } in r) (c.topic_count.ensures files)
    ∙ ap (λ o. let r : Room = record { topics = length k.topics; partitions = o } in r) (c.partitions_left.ensures files)
