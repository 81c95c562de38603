use Rattle.std.proofs.Common.{◌∙◌, ◌<◌, ◌≤◌, sym, length, map, drop, refl, arith}
use Rattle.kb_api_group.specs.Layouts.{offset_fetch_topic}
use Rattle.kb_tenant_state.specs.Parts.{world_of}
use Rattle.kb_tenant.specs.OffsetFetch.{fetched_topic, topic_reply}
use Rattle.kb_tenant.proofs.Fitting.{count_fits, item_fits}
use Rattle.kb_tenant.proofs.Until.{until_counted, until_next, until_over, until_past}
use Rattle.kb_tenant.proofs.offset_fetch.put_asked.Goals as goal

pub put_count-requires : goal.put_count-requires
put_count-requires g c = count_fits offset_fetch_topic c.args.topics.now _ c.requires refl

pub fetch_topic-requires : goal.fetch_topic-requires
fetch_topic-requires g c = item_fits offset_fetch_topic c.args.topics.now c.loop-topic.topic-index c.topic-item.result c.requires c.loop-topic-test.true c.topic-item.is

pub loop-topic-preserved : goal.loop-topic-preserved
loop-topic-preserved g c files =
    let f = fetched_topic (world_of g.L.PartitionLog.log c.args.parts.now files) c.args.group.now in
    let write = (topic_reply c.args.has_epochs).written in
    let few : length c.loop-topic.sink.bytes ≤ c.args.most = omega (arith, c.if-len-most.false, c.len.ensures) in
    until_next c.args.most write f c.loop-topic.sink.bytes c.fetch_topic.new.sink.bytes c.args.topics.now c.loop-topic.topic-index c.topic-item.result
    few c.loop-topic-test.true c.topic-item.is (c.in_ok-fetch_topic.ensures files) ∙ c.loop-topic.invariant files

pub returns-then-len-most : goal.returns-then-len-most
returns-then-len-most g c files =
    let f = fetched_topic (world_of g.L.PartitionLog.log c.args.parts.now files) c.args.group.now in
    let write = (topic_reply c.args.has_epochs).written in
    let topics = c.args.topics.now in
    let many : c.args.most < length c.loop-topic.sink.bytes = omega (arith, c.if-len-most.true, c.len.ensures) in
    sym (until_past c.args.most write c.loop-topic.sink.bytes (map f (drop c.loop-topic.topic-index topics)) many) ∙ c.loop-topic.invariant files
    ∙ until_counted c.args.most (topic_reply c.args.has_epochs) f c.args.sink.now.bytes c.put_count.new.self.bytes topics c.in_ok-put_count.ensures.ok

pub returns : goal.returns
returns g c files =
    let f = fetched_topic (world_of g.L.PartitionLog.log c.args.parts.now files) c.args.group.now in
    let write = (topic_reply c.args.has_epochs).written in
    let topics = c.args.topics.now in
    sym (until_over c.args.most write f c.loop-topic.sink.bytes topics c.loop-topic.topic-index c.loop-topic-test.false) ∙ c.loop-topic.invariant files
    ∙ until_counted c.args.most (topic_reply c.args.has_epochs) f c.args.sink.now.bytes c.put_count.new.self.bytes topics c.in_ok-put_count.ensures.ok
