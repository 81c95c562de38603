use Rattle.kb_tenant_state.specs.Parts.{world_of}
use Rattle.kb_tenant.proofs.Missing.{topic_more, topics_over, unanswered_if}
use Rattle.kb_tenant.proofs.fetch.waits.surely_waits.Goals as goal

pub loop-topic-preserved : goal.loop-topic-preserved
loop-topic-preserved g c = λ files agree.
    topic_more (world_of g.L.PartitionLog.log c.args.parts.now files) c.args.request.now c.topics-topic-items.result.now
    c.loop-topic.topic-index c.topic-item.result c.name.result.now c.topic_named-instance.result c.partitions-entries.result.now
    c.loop-topic.missing c.in-Some.left c.loop-topic.is_asked c.is_empty.result c.topics-topic-items.ensures c.loop-topic-test.true
    c.topic-item.is c.name.ensures (c.topic_named-instance.ensures files) c.partitions-entries.ensures c.is_empty.ensures
    (c.in-Some.ensures files agree) (c.loop-topic.invariant files agree)

pub returns : goal.returns
returns g c = λ files agree asked.
    let w = world_of g.L.PartitionLog.log c.args.parts.now files in
    unanswered_if w c.args.clock c.args.request.now c.args.deadline c.loop-topic.missing c.loop-topic.is_asked asked
    c.if-deadline-clock.false
    (topics_over w c.args.request.now c.topics-topic-items.result.now c.loop-topic.topic-index c.loop-topic.missing c.loop-topic.is_asked
    c.topics-topic-items.ensures c.loop-topic-test.false (c.loop-topic.invariant files agree))
