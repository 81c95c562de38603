use Rattle.kb_tenant_state.specs.Parts.{world_of}
use Rattle.kb_tenant.proofs.Waiting.{topic_added, topics_done}
use Rattle.kb_tenant.proofs.fetch.waiting.places.Goals as goal

pub loop-topic-preserved : goal.loop-topic-preserved
loop-topic-preserved g c = λ files.
    topic_added (world_of g.L.PartitionLog.log c.args.parts.now files) c.args.request.now c.topics-topic-items.result.now c.loop-topic.topic-index c.topic-item.result c.topic_named-instance.result c.name.result.now c.partitions.result.now c.loop-topic.places.items c.add_places.new.places.items
    c.topics-topic-items.ensures c.loop-topic-test.true c.topic-item.is c.name.ensures (c.topic_named-instance.ensures files) c.partitions.ensures (c.loop-topic.invariant files) c.in_ok-add_places.ensures

pub returns : goal.returns
returns g c = λ files.
    topics_done (world_of g.L.PartitionLog.log c.args.parts.now files) c.args.request.now c.topics-topic-items.result.now c.loop-topic.topic-index c.loop-topic.places.items c.topics-topic-items.ensures c.loop-topic-test.false (c.loop-topic.invariant files)
