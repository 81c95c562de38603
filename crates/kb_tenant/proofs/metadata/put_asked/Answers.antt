use mir.Val.{to_z, of_z}
use Rattle.std.proofs.Common.{◌≡◌, ◌∙◌, ap, sym, ◌++◌, length, w16}
use Rattle.std.specs.Prelude.{pos, true}
use Rattle.std.proofs.lemmas.Int.{to_z-of_z}
use Rattle.std.proofs.lemmas.Result.{on_ok_weaker}
use Rattle.kb_topics.specs.Catalog.{known}
use Rattle.kb_topics.specs.Name.{is_legal}
use Rattle.kb_tenant.specs.Metadata.{topic_described, topic_in}
use Rattle.kb_tenant.proofs.Described.{asked_unknown, asked_gone, asked_known}
use Rattle.kb_tenant.proofs.metadata.put_asked.Goals as goal

pub returns-in_default : goal.returns-in_default
returns-in_default g c files = on_ok_weaker c.put_topic-in_default.result (λ told.
    let old = c.args.sink.now.bytes in
    let name = c.args.name.now in
    let ts = (known c.args.parts.now.catalog).topics in
    let legal : is_legal name ≡ true = sym c.is_legal_name.ensures ∙ c.if-not-is_legal_name.false in
    told ∙ ap (λ z. old ++ topic_in z (topic_described (to_z w16 (of_z w16 c.code-in_default.result)) name 0)) (to_z-of_z w16 c.args.version c.ranges.version)
    ∙ ap (λ x. old ++ topic_in c.args.version (topic_described (to_z w16 (of_z w16 x)) name 0)) c.code-in_default.ensures
    ∙ ap (λ t. old ++ topic_in c.args.version t) (asked_unknown ts name legal (c.in_default.ensures files))) c.put_topic-in_default.ensures

pub returns-in_default-topic : goal.returns-in_default-topic
returns-in_default-topic g c files = on_ok_weaker c.put_topic-in_default-topic.result (λ told.
    let old = c.args.sink.now.bytes in
    let name = c.args.name.now in
    let ts = (known c.args.parts.now.catalog).topics in
    let legal : is_legal name ≡ true = sym c.is_legal_name.ensures ∙ c.if-not-is_legal_name.false in
    told ∙ ap (λ z. old ++ topic_in z (topic_described (to_z w16 (of_z w16 c.code-in_default-topic.result)) name 0)) (to_z-of_z w16 c.args.version c.ranges.version)
    ∙ ap (λ x. old ++ topic_in c.args.version (topic_described (to_z w16 (of_z w16 x)) name 0)) c.code-in_default-topic.ensures
    ∙ ap (λ t. old ++ topic_in c.args.version t) (asked_gone ts name c.in-Some.instance legal (c.in-Some.ensures files) (c.in_default-topic.ensures files))) c.put_topic-in_default-topic.ensures

pub returns : goal.returns
returns g c files = on_ok_weaker c.put_topic-2.result (λ told.
    let old = c.args.sink.now.bytes in
    let name = c.args.name.now in
    let ts = (known c.args.parts.now.catalog).topics in
    let legal : is_legal name ≡ true = sym c.is_legal_name.ensures ∙ c.if-not-is_legal_name.false in
    told ∙ ap (λ z. old ++ topic_in z (topic_described (to_z w16 (of_z w16 c.code-2.result)) name (length c.partitions.result.now))) (to_z-of_z w16 c.args.version c.ranges.version)
    ∙ ap (λ x. old ++ topic_in c.args.version (topic_described (to_z w16 (of_z w16 x)) name (length c.partitions.result.now))) c.code-2.ensures
    ∙ ap (λ ps. old ++ topic_in c.args.version (topic_described (pos 0) name (length ps))) c.partitions.ensures
    ∙ ap (λ t. old ++ topic_in c.args.version t) (asked_known ts name c.in-Some.instance c.in-Some-topic.topic.now legal (c.in-Some.ensures files) (c.in-Some-topic.ensures files))) c.put_topic-2.ensures
