use mir.Val.{to_z, of_z}
use Rattle.std.proofs.Common.{◌≡◌, ◌∙◌, ◌<◌, ◌≤◌, sym, ap, ℕ, ◌++◌, length, map, arith, w16, w32}
use Rattle.std.proofs.lemmas.Int.{to_z-of_z}
use Rattle.std.proofs.lemmas.Iterator.Consumers.{YieldsList-from_first, count_from_yields_List}
use Rattle.std.proofs.lemmas.List.{length-map}
use Rattle.kb_wire.specs.Codec.{count}
use Rattle.kb_topics.specs.ByName.{by_name}
use Rattle.kb_topics.specs.Catalog.{known}
use Rattle.kb_topics.specs.Known.{TopicState}
use Rattle.kb_tenant.specs.Metadata.{topic_in, topic_known, topics_until}
use Rattle.kb_tenant.specs.Replies.{written_until}
use Rattle.kb_tenant.proofs.Fitting.{small_count}
use Rattle.kb_tenant.proofs.Until.{until_first, until_none, until_past}
use Rattle.kb_tenant.proofs.metadata.put_all.Goals as goal

pub put_count-requires : goal.put_count-requires
put_count-requires g c = small_count c.count-count.result (omega (arith, c.if-count.false))

pub loop-topic-preserved : goal.loop-topic-preserved
loop-topic-preserved g c =
    let f = λ (e : ℕ × TopicState). topic_known e.1 in
    let write = topic_in (to_z w16 (of_z w16 c.args.version)) in
    let out = c.loop-topic.sink.bytes in
    let few : length out ≤ c.args.most = omega (arith, c.if-len-most.false, c.len.ensures) in
    ap (λ s. written_until c.args.most write s (map f c.next.new.self)) c.in_ok-put_known.ensures
    ∙ sym (until_first c.args.most write out (topic_known c.in-Some.topic.now) (map f c.next.new.self) few)
    ∙ ap (λ left. written_until c.args.most write out (map f left)) (sym c.in-Some.ensures.steps) ∙ c.loop-topic.invariant

pub returns-then-len-most : goal.returns-then-len-most
returns-then-len-most g c files =
    let all = by_name (known c.args.parts.now.catalog).topics in
    let f = λ (e : ℕ × TopicState). topic_known e.1 in
    let write = topic_in (to_z w16 (of_z w16 c.args.version)) in
    let old = c.args.sink.now.bytes in
    let start = c.put_count.new.self.bytes in
    let last = c.loop-topic.sink.bytes in
    let many : c.args.most < length last = omega (arith, c.if-len-most.true, c.len.ensures) in
    let count_is : c.count-count.result ≡ length all =
    count_from_yields_List c.topics.result c.count-count.result c.count-count.ensures.ran (YieldsList-from_first (λ p. (p.0, p.1.now)) (λ left. left) all (c.topics.ensures files)) in
    sym (until_past c.args.most write last (map f c.loop-topic.topic-iterator) many) ∙ c.loop-topic.invariant
    ∙ ap (λ l. written_until c.args.most write start (map f l)) (c.into_iter-topic-iterator.ensures.into_iter_gives ∙ c.topics-topic-items.ensures files)
    ∙ ap (λ s. written_until c.args.most write s (map f all)) (c.in_ok-put_count.ensures.ok ∙ ap (λ n. old ++ (count w32).written n) (count_is ∙ sym (length-map all f)))
    ∙ ap (λ z. topics_until c.args.most z old (map f all)) (to_z-of_z w16 c.args.version c.ranges.version)

pub returns : goal.returns
returns g c files =
    let all = by_name (known c.args.parts.now.catalog).topics in
    let f = λ (e : ℕ × TopicState). topic_known e.1 in
    let write = topic_in (to_z w16 (of_z w16 c.args.version)) in
    let old = c.args.sink.now.bytes in
    let start = c.put_count.new.self.bytes in
    let last = c.loop-topic.sink.bytes in
    let count_is : c.count-count.result ≡ length all =
    count_from_yields_List c.topics.result c.count-count.result c.count-count.ensures.ran (YieldsList-from_first (λ p. (p.0, p.1.now)) (λ left. left) all (c.topics.ensures files)) in
    until_none c.args.most write last ∙ ap (λ l. written_until c.args.most write last (map f l)) (sym c.in-None.ensures.steps.0) ∙ c.loop-topic.invariant
    ∙ ap (λ l. written_until c.args.most write start (map f l)) (c.into_iter-topic-iterator.ensures.into_iter_gives ∙ c.topics-topic-items.ensures files)
    ∙ ap (λ s. written_until c.args.most write s (map f all)) (c.in_ok-put_count.ensures.ok ∙ ap (λ n. old ++ (count w32).written n) (count_is ∙ sym (length-map all f)))
    ∙ ap (λ z. topics_until c.args.most z old (map f all)) (to_z-of_z w16 c.args.version c.ranges.version)
