use Rattle.std.proofs.Common.{◌∙◌, ◌<◌, ◌≤◌, ◌++◌, sym, ap, length, arith, w32}
use Rattle.std.specs.List.{flat_map}
use Rattle.kb_wire.specs.Codec.{count}
use Rattle.kb_tenant_state.specs.Parts.{world_of}
use Rattle.kb_tenant.specs.OffsetFetch.{all_told, topic_reply, topic_told}
use Rattle.kb_tenant.specs.Replies.{written_until}
use Rattle.kb_tenant.proofs.AllOffsets.{topics_more}
use Rattle.kb_tenant.proofs.Fitting.{small_count}
use Rattle.kb_tenant.proofs.Until.{until_none, until_past}
use Rattle.kb_tenant.proofs.all_offsets.put_all.Goals as goal

pub put_count-requires : goal.put_count-requires
put_count-requires g c = small_count c.in_ok-count.count c.in_ok-count.ensures.few

pub loop-instance-preserved : goal.loop-instance-preserved
loop-instance-preserved g c files =
    let w = world_of g.L.PartitionLog.log c.args.parts.now files in
    let f = topic_told w c.args.group.now in
    let write = (topic_reply c.args.has_epochs).written in
    let out = c.loop-instance.sink.bytes in
    let few : length out ≤ c.args.most = omega (arith, c.if-len-most.false, c.len.ensures) in
    topics_more c.args.has_epochs c.args.most w c.args.group.now (c.in-Some.instance, c.in-Some.topic.now) c.next.new.self out c.put_topic.new.sink.bytes few (c.in_ok-put_topic.ensures files)
    ∙ ap (λ left. written_until c.args.most write out (flat_map f left)) (sym c.in-Some.ensures.steps) ∙ c.loop-instance.invariant files

pub returns-then-len-most : goal.returns-then-len-most
returns-then-len-most g c files =
    let w = world_of g.L.PartitionLog.log c.args.parts.now files in
    let f = topic_told w c.args.group.now in
    let write = (topic_reply c.args.has_epochs).written in
    let all = all_told w c.args.group.now in
    let old = c.args.sink.now.bytes in
    let start = c.put_count.new.self.bytes in
    let last = c.loop-instance.sink.bytes in
    let many : c.args.most < length last = omega (arith, c.if-len-most.true, c.len.ensures) in
    sym (until_past c.args.most write last (flat_map f c.loop-instance.instance-iterator) many) ∙ c.loop-instance.invariant files
    ∙ ap (λ l. written_until c.args.most write start (flat_map f l)) (c.into_iter-instance-iterator.ensures.into_iter_gives ∙ c.topics-instance-items.ensures files)
    ∙ ap (λ s. written_until c.args.most write s all) (c.in_ok-put_count.ensures.ok ∙ ap (λ n. old ++ (count w32).written n) (c.in_ok-count.ensures.exact files))

pub returns : goal.returns
returns g c files =
    let w = world_of g.L.PartitionLog.log c.args.parts.now files in
    let f = topic_told w c.args.group.now in
    let write = (topic_reply c.args.has_epochs).written in
    let all = all_told w c.args.group.now in
    let old = c.args.sink.now.bytes in
    let start = c.put_count.new.self.bytes in
    let last = c.loop-instance.sink.bytes in
    until_none c.args.most write last ∙ ap (λ l. written_until c.args.most write last (flat_map f l)) (sym c.in-None.ensures.steps.0) ∙ c.loop-instance.invariant files
    ∙ ap (λ l. written_until c.args.most write start (flat_map f l)) (c.into_iter-instance-iterator.ensures.into_iter_gives ∙ c.topics-instance-items.ensures files)
    ∙ ap (λ s. written_until c.args.most write s all) (c.in_ok-put_count.ensures.ok ∙ ap (λ n. old ++ (count w32).written n) (c.in_ok-count.ensures.exact files))
