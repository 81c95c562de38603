use mir.Val.{to_z, of_z}
use Rattle.std.proofs.Common.{◌≡◌, ◌∙◌, ◌++◌, ◌+◌, [], ◌∷◌, sym, ap, subst, length, take, w16, List}
use Rattle.std.proofs.lemmas.Int.{to_z-of_z}
use Rattle.kb_wire.specs.Codec.{array}
use Rattle.kb_api_data.specs.Layouts.{create_topic}
use Rattle.kb_api_data.specs.declared.create_topics.CreateTopic.{CreateTopic}
use Rattle.kb_api_data.specs.declared.create_topics.CreateTopicReply.{CreateTopicReply}
use Rattle.kb_store.proofs.Seen.{on_err}
use Rattle.kb_tenant_state.specs.Scene.{Scene, WhereHonest}
use Rattle.kb_tenant.specs.CreateTopics.{created_topic, creation_in, creations_in, stands_twice}
use Rattle.kb_tenant_state.specs.Parts.{Seen, scene}
use Rattle.kb_tenant_state.specs.Steps.{step_then, meets_then, meets_so}
use Rattle.kb_tenant.specs.Told.{AreCreationsCut, CreationFailed, IsCreationTold}
use Rattle.kb_tenant.specs.Turns.{in_turn, AreFirstServed, AreServed}
use Rattle.kb_tenant_state.specs.World.{World}
use Rattle.kb_tenant.proofs.Acknowledging.{honest_then, served_all, served_length, served_next, written_more}
use Rattle.kb_tenant.proofs.Creating.{answer_next, answers_over, created_is, name_fits, replies_written, topics_fit}
use Rattle.kb_tenant.proofs.Replies.{count_fits, item_fits}
use Rattle.kb_tenant.proofs.Wanted.{creation_behind, creation_told_so, creations_before}
use Rattle.kb_tenant.proofs.create_topics.create_topics.Goals as goal

pub put_count-requires : goal.put_count-requires
put_count-requires g c =
    let fits = subst (array create_topic).Fits (sym c.as_slice-topics.ensures) (topics_fit c.args.request.now c.requires.fits) in
    count_fits create_topic c.as_slice-topics.result.now fits

pub put_answer-requires : goal.put_answer-requires
put_answer-requires g c =
    let fits = subst (array create_topic).Fits (sym c.as_slice-topics.ensures) (topics_fit c.args.request.now c.requires.fits) in
    let t = c.topic-item.result in
    name_fits t c.as_str-name.result.now c.as_str-name.ensures (item_fits create_topic c.as_slice-topics.result.now c.loop-topic.topic-index t c.loop-topic-test.true c.topic-item.is fits)

pub returns-in_err-put_answer-clause-step : goal.returns-in_err-put_answer-clause-step
returns-in_err-put_answer-clause-step g c =
    let log = g.L.PartitionLog.log in
    let disk = g.S.Store.disk in
    let a : Scene Seen = scene log disk c.args.parts.now c.args.shelf.now in
    let b : Scene Seen = scene log disk c.loop-topic.parts c.loop-topic.shelf in
    let d : Scene Seen = scene log disk c.create_topic-error_code.new.parts c.create_topic-error_code.new.shelf in
    step_then a b d c.loop-topic.invariant.step c.create_topic-error_code.ensures.step

pub loop-topic-preserved : goal.loop-topic-preserved
loop-topic-preserved g c =
    let log = g.L.PartitionLog.log in
    let disk = g.S.Store.disk in
    let a : Scene Seen = scene log disk c.args.parts.now c.args.shelf.now in
    let b : Scene Seen = scene log disk c.loop-topic.parts c.loop-topic.shelf in
    let d : Scene Seen = scene log disk c.create_topic-error_code.new.parts c.create_topic-error_code.new.shelf in
    let ts = c.as_slice-topics.result.now in
    let t = c.topic-item.result in
    let i = c.loop-topic.topic-index in
    let again = c.contains.ensures ∙ c.in_ok-repeated.ensures c.as_str-name.result.now ∙ ap (λ n. stands_twice n ts) c.as_str-name.ensures in
    let sent = to_z-of_z w16 c.create_topic-error_code.result (record { sfits = c.create_topic-error_code.type_inv }) in
    record {
      step = step_then a b d c.loop-topic.invariant.step c.create_topic-error_code.ensures.step;
      told = meets_so a d _ _ (λ both. answer_next (to_z w16 (of_z w16 c.args.version)) (created_topic c.args.limits ts) c.loop-topic.sink.bytes c.put_answer.new.sink.bytes b.state.world d.state.world _ ts i t _ c.loop-topic-test.true c.topic-item.is c.in_ok-put_answer.ensures
          (created_is c.args.limits b.state.world d.state.world ts t c.as_str-name.result.now c.contains.result c.create_topic-error_code.result _ c.as_str-name.ensures again both.1 sent) both.0)
          (meets_then a b d _ _ c.loop-topic.invariant.step c.create_topic-error_code.ensures.step c.loop-topic.invariant.told c.create_topic-error_code.ensures.meets);
      answers = λ honest agree.
          let reply : CreateTopicReply = record { name = c.as_str-name.result.now; error_code = to_z w16 (of_z w16 c.create_topic-error_code.result) } in
          let first = c.loop-topic.invariant.step in
          let second = c.create_topic-error_code.ensures.step in
          let both = honest_then a b d _ _ first second c.loop-topic.invariant.answers
          (creation_told_so c.args.limits b d ts t c.as_str-name.result.now c.contains.result c.create_topic-error_code.result reply.error_code second c.as_str-name.ensures again sent c.create_topic-error_code.ensures.told) honest agree in
          let before = both.0 in (
            before.0 ++ reply ∷ [],
            (
              written_more (creation_in (to_z w16 (of_z w16 c.args.version))) c.put_count.new.self.bytes c.loop-topic.sink.bytes c.put_answer.new.sink.bytes before.0 reply before.1.0 c.in_ok-put_answer.ensures,
              served_next (IsCreationTold (CreationFailed a d) c.args.limits ts) a.state.world b.state.world d.state.world ts i t before.0 reply c.loop-topic-test.true c.topic-item.is
                  (creations_before a b d second c.args.limits ts (take i ts) a.state.world b.state.world before.0 before.1.1)
                  (creation_behind a b d first c.args.limits ts b.state.world t d.state.world reply both.1),
            ),
          );
    }

pub returns-clause-meets : goal.returns-clause-meets
returns-clause-meets g c = λ honest agrees calm.
    let log = g.L.PartitionLog.log in
    let disk = g.S.Store.disk in
    let a : Scene Seen = scene log disk c.args.parts.now c.args.shelf.now in
    let b : Scene Seen = scene log disk c.loop-topic.parts c.loop-topic.shelf in
    let ts = c.as_slice-topics.result.now in
    let start = c.args.sink.now.bytes in
    let end = c.loop-topic.sink.bytes in
    let w : World = a.state.world in
    let v : World = b.state.world in
    let same = to_z-of_z w16 c.args.version c.ranges.version in
    let over = answers_over c.args.version (to_z w16 (of_z w16 c.args.version)) (created_topic c.args.limits ts) start c.put_count.new.self.bytes end w v ts c.loop-topic.topic-index same c.loop-topic-test.false c.in_ok-put_count.ensures.ok (c.loop-topic.invariant.told honest agrees calm) in
    subst (λ (xs : List CreateTopic). let r = in_turn (created_topic c.args.limits xs) w xs in (v ≡ r.0) × (end ≡ start ++ creations_in c.args.version (record { topics = r.1 }))) c.as_slice-topics.ensures over

pub returns-clause-told : goal.returns-clause-told
returns-clause-told g c = λ honest agree.
    let log = g.L.PartitionLog.log in
    let disk = g.S.Store.disk in
    let a : Scene Seen = scene log disk c.args.parts.now c.args.shelf.now in
    let b : Scene Seen = scene log disk c.loop-topic.parts c.loop-topic.shelf in
    let ts = c.as_slice-topics.result.now in
    let start = c.args.sink.now.bytes in
    let end = c.loop-topic.sink.bytes in
    let w : World = a.state.world in
    let v : World = b.state.world in
    let so = c.loop-topic.invariant.answers honest agree in
    let all = served_all (IsCreationTold (CreationFailed a b) c.args.limits ts) w v ts c.loop-topic.topic-index so.0 c.loop-topic-test.false so.1.1 in
    let many = sym (served_length (IsCreationTold (CreationFailed a b) c.args.limits ts) w v ts so.0 all) in
    let bytes = replies_written c.args.version (to_z w16 (of_z w16 c.args.version)) start c.put_count.new.self.bytes end (length ts) so.0 (to_z-of_z w16 c.args.version c.ranges.version) many c.in_ok-put_count.ensures.ok so.1.0 in
    subst (λ (xs : List CreateTopic). (replies : List CreateTopicReply) × ((end ≡ start ++ creations_in c.args.version (record { topics = replies })) × AreServed (IsCreationTold (CreationFailed a b) c.args.limits xs) w xs v replies)) c.as_slice-topics.ensures (so.0, (bytes, all))

pub returns-in_err-put_answer-clause-cut : goal.returns-in_err-put_answer-clause-cut
returns-in_err-put_answer-clause-cut g c =
    let log = g.L.PartitionLog.log in
    let disk = g.S.Store.disk in
    let a : Scene Seen = scene log disk c.args.parts.now c.args.shelf.now in
    let b : Scene Seen = scene log disk c.loop-topic.parts c.loop-topic.shelf in
    let d : Scene Seen = scene log disk c.create_topic-error_code.new.parts c.create_topic-error_code.new.shelf in
    let ts = c.as_slice-topics.result.now in
    let t = c.topic-item.result in
    let i = c.loop-topic.topic-index in
    let again = c.contains.ensures ∙ c.in_ok-repeated.ensures c.as_str-name.result.now ∙ ap (λ n. stands_twice n ts) c.as_str-name.ensures in
    let sent = to_z-of_z w16 c.create_topic-error_code.result (record { sfits = c.create_topic-error_code.type_inv }) in
    let reply : CreateTopicReply = record { name = c.as_str-name.result.now; error_code = to_z w16 (of_z w16 c.create_topic-error_code.result) } in
    let first = c.loop-topic.invariant.step in
    let second = c.create_topic-error_code.ensures.step in
    let is : WhereHonest a d (AreCreationsCut (CreationFailed a d) c.args.limits a.state.world c.args.request.now d.state.world) = λ honest agree.
    let both = honest_then a b d _ _ first second c.loop-topic.invariant.answers
    (creation_told_so c.args.limits b d ts t c.as_str-name.result.now c.contains.result c.create_topic-error_code.result reply.error_code second c.as_str-name.ensures again sent c.create_topic-error_code.ensures.told) honest agree in
    let before = both.0 in
    subst (λ (xs : List CreateTopic). AreFirstServed (IsCreationTold (CreationFailed a d) c.args.limits xs) a.state.world xs d.state.world) c.as_slice-topics.ensures (
      i + 1,
      (
        before.0 ++ reply ∷ [],
        served_next (IsCreationTold (CreationFailed a d) c.args.limits ts) a.state.world b.state.world d.state.world ts i t before.0 reply c.loop-topic-test.true c.topic-item.is
            (creations_before a b d second c.args.limits ts (take i ts) a.state.world b.state.world before.0 before.1.1)
            (creation_behind a b d first c.args.limits ts b.state.world t d.state.world reply both.1),
      ),
    ) in
    on_err _ is
