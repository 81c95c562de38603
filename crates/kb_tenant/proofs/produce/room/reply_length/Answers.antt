use Rattle.std.proofs.Common.{◌∙◌, ◌<◌, ◌≤◌, ◌+◌, ap, arith, get_or, length, subst, sym}
use Rattle.std.specs.List.{sum_by}
use Rattle.std.proofs.lemmas.List.{take_all}
use Rattle.kb_tenant.specs.Room.{topic_length}
use Rattle.kb_tenant.proofs.Produced.{topic_fits}
use Rattle.kb_tenant.proofs.produce.room.reply_length.Goals as goal

pub topic_length-requires : goal.topic_length-requires
topic_length-requires c =
    let i = c.loop-topic.topic-index in
    topic_fits c.args.request.now i c.topic-item.result
    (subst (λ ts. i < length ts) c.as_slice-topic-items.ensures c.loop-topic-test.true)
    (c.topic-item.is ∙ ap (λ ts. get_or ts i c.topic-item.result) c.as_slice-topic-items.ensures)
    c.requires

pub returns : goal.returns
returns c =
    let ts = c.args.request.now.topics in
    let i = c.loop-topic.topic-index in
    let all = c.loop-topic.invariant.counted ∙ ap (λ xs. 8 + sum_by (topic_length c.args.has_starts) xs) (take_all i ts (subst (λ xs. length xs ≤ i) c.as_slice-topic-items.ensures c.loop-topic-test.false)) in
    (omega (arith, sym all, c.loop-topic.invariant.small), all)
