use mir.Val.{to_z, of_z}
use Rattle.std.proofs.Common.{◌≡◌, ◌∙◌, ◌++◌, sym, ap, subst, w16, List}
use Rattle.std.specs.Prelude.{is_some}
use Rattle.std.proofs.lemmas.Int.{to_z-of_z}
use Rattle.kb_wire.specs.Codec.{array}
use Rattle.kb_api_data.specs.Layouts.{create_topic}
use Rattle.kb_api_data.specs.declared.create_topics.CreateTopic.{CreateTopic}
use Rattle.kb_topics.specs.Known.{named}
use Rattle.kb_tenant.specs.CreateTopics.{checked_topic, creations_in, made_of, stands_twice}
use Rattle.kb_tenant.specs.Turns.{in_turn}
use Rattle.kb_tenant_state.specs.Parts.{world_of}
use Rattle.kb_tenant_state.specs.World.{World}
use Rattle.kb_tenant.proofs.Checking.{checks_foretell}
use Rattle.kb_tenant.proofs.Creating.{answer_next, answers_over, checked_is, name_fits, topics_fit}
use Rattle.kb_tenant.proofs.Replies.{count_fits, item_fits}
use Rattle.kb_tenant.proofs.create_topics.check_topics.Goals as goal

pub put_count-requires : goal.put_count-requires
put_count-requires g c =
    let fits = subst (array create_topic).Fits (sym c.as_slice-entries.ensures) (topics_fit c.args.request.now c.requires) in
    count_fits create_topic c.as_slice-entries.result.now fits

pub put_answer-requires : goal.put_answer-requires
put_answer-requires g c =
    let fits = subst (array create_topic).Fits (sym c.as_slice-entries.ensures) (topics_fit c.args.request.now c.requires) in
    let t = c.topic-item.result in
    name_fits t c.as_str-name.result.now c.as_str-name.ensures (item_fits create_topic c.as_slice-entries.result.now c.loop-topic.topic-index t c.loop-topic-test.true c.topic-item.is fits)

pub loop-topic-preserved : goal.loop-topic-preserved
loop-topic-preserved g c = λ files.
    let w : World = world_of g.L.PartitionLog.log c.args.parts.now files in
    let ts = c.as_slice-entries.result.now in
    let t = c.topic-item.result in
    let i = c.loop-topic.topic-index in
    let again = c.contains.ensures ∙ c.in_ok-repeated.ensures c.as_str-name.result.now ∙ ap (λ n. stands_twice n ts) c.as_str-name.ensures in
    let there = c.is_some-exists.ensures ∙ ap is_some (c.topic_named.ensures files) ∙ ap (λ n. is_some (named n w.known.topics)) c.as_str-name.ensures in
    let sent = to_z-of_z w16 c.check_topic-error_code.result (record { sfits = c.check_topic-error_code.type_inv }) in
    answer_next (to_z w16 (of_z w16 c.args.version)) (checked_topic c.args.limits ts w) c.loop-topic.sink.bytes c.put_answer.new.sink.bytes c.loop-topic.room c.check_topic-error_code.new.room _ ts i t _ c.loop-topic-test.true c.topic-item.is c.in_ok-put_answer.ensures
    (checked_is c.args.limits w ts t c.as_str-name.result.now c.contains.result c.is_some-exists.result c.loop-topic.room c.check_topic-error_code.new.room c.check_topic-error_code.result _ c.as_str-name.ensures again there c.check_topic-error_code.ensures sent) (c.loop-topic.invariant files)

pub returns-clause-written : goal.returns-clause-written
returns-clause-written g c = λ files.
    let w : World = world_of g.L.PartitionLog.log c.args.parts.now files in
    let ts = c.as_slice-entries.result.now in
    let start = c.args.sink.now.bytes in
    let end = c.loop-topic.sink.bytes in
    let same = to_z-of_z w16 c.args.version c.ranges.version in
    let over = answers_over c.args.version (to_z w16 (of_z w16 c.args.version)) (checked_topic c.args.limits ts w) start c.put_count.new.self.bytes end c.of-room.result c.loop-topic.room ts c.loop-topic.topic-index same c.loop-topic-test.false c.in_ok-put_count.ensures.ok (c.loop-topic.invariant files) in
    let all : end ≡ start ++ creations_in c.args.version (record { topics = (in_turn (checked_topic c.args.limits ts w) c.of-room.result ts).1 }) = over.1 in
    subst (λ (xs : List CreateTopic). end ≡ start ++ creations_in c.args.version (record { topics = (in_turn (checked_topic c.args.limits xs w) c.of-room.result xs).1 })) c.as_slice-entries.ensures all
    ∙ ap (λ n. start ++ creations_in c.args.version (record { topics = (in_turn (checked_topic c.args.limits c.args.request.now.topics w) n c.args.request.now.topics).1 })) (c.of-room.ensures files)

pub returns-clause-foretold : goal.returns-clause-foretold
returns-clause-foretold g c = λ files tied left.
    let w : World = world_of g.L.PartitionLog.log c.args.parts.now files in
    returns-clause-written g c files ∙ ap (λ r. c.args.sink.now.bytes ++ creations_in c.args.version r) (checks_foretell c.args.limits w (made_of c.args.request.now) tied left)
