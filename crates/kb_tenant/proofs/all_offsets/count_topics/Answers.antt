use Rattle.std.proofs.Common.{◌≡◌, ◌∙◌, ◌+◌, sym, ap, length, arith}
use Rattle.std.specs.List.{flat_map}
use Rattle.kb_tenant_state.specs.Parts.{world_of}
use Rattle.kb_tenant.specs.OffsetFetch.{topic_told}
use Rattle.kb_tenant.proofs.AllOffsets.{topics_counted}
use Rattle.kb_tenant.proofs.all_offsets.count_topics.Goals as goal

pub loop-instance-preserved : goal.loop-instance-preserved
loop-instance-preserved g c = record {
  counted = λ files.
      let w = world_of g.L.PartitionLog.log c.args.parts.now files in
      let f = topic_told w c.args.group.now in
      topics_counted w c.args.group.now (c.in-Some.instance, c.in-Some.topic.now) c.next.new.self c.count_topic-count.result c.loop-instance.count _ (c.count_topic-count.ensures.exact files)
      (ap (λ left. c.loop-instance.count + length (flat_map f left)) (sym c.in-Some.ensures.steps) ∙ c.loop-instance.invariant.counted files);
  few = omega (arith, c.if-count.false);
}

pub returns-clause-exact : goal.returns-clause-exact
returns-clause-exact g c files =
    let w = world_of g.L.PartitionLog.log c.args.parts.now files in
    let f = topic_told w c.args.group.now in
    let n = c.loop-instance.count in
    let over : n ≡ n + 0 = omega arith in
    over ∙ ap (λ left. n + length (flat_map f left)) (sym c.in-None.ensures.steps.0) ∙ c.loop-instance.invariant.counted files
    ∙ ap (λ l. length (flat_map f l)) (c.into_iter-instance-iterator.ensures.into_iter_gives ∙ c.topics-instance-items.ensures files)

pub returns-clause-few : goal.returns-clause-few
returns-clause-few g c = c.loop-instance.invariant.few
