use Rattle.std.proofs.Common.{◌≡◌, ◌∙◌, ◌++◌, ◌∷◌, [], ◌<◌, ◌≤◌, append-nil, arith, OnOk, Ok, pos, ap, sym, refl, subst, length, get_or, rules, w32}
use Rattle.std.proofs.lemmas.Result.{on_ok_weaker}
use Rattle.kb_wire.specs.Codec.{count}
use Rattle.kb_api_data.specs.declared.produce_v5.ProduceTopicReplyV5.{ProduceTopicReplyV5}
use Rattle.kb_tenant_state.specs.Parts.{scene}
use Rattle.kb_tenant.specs.Produce.{is_due, progress, served_topic, topic_written, where_due}
use Rattle.kb_tenant.specs.Room.{length_due, reply_length, IsLonger}
use Rattle.kb_tenant_state.specs.Steps.{step_same, step_then, meets_then, meets_so}
use Rattle.kb_tenant.specs.Told.{FailedBy, HasFailed, IsTopicTold}
use Rattle.kb_tenant.proofs.Acknowledging.{failures_by, failures_since, honest_then, next_by, produce_told_so, served_all, served_next, written_more}
use Rattle.kb_tenant.proofs.Produced.{number_fits, topics_fit, topic_fits, told_next, produce_told}
use Rattle.kb_tenant.specs.Turns.{in_turn, written_behind, AreServed}
use Rattle.kb_tenant.proofs.Turning.{turn_over}
use Rattle.kb_tenant.proofs.Room.{never_refused, number_length, reply_put, topic_within, topics_put}
use Rattle.kb_tenant.proofs.produce.produce.Goals as goal

pub put_count-requires : goal.put_count-requires
put_count-requires g c = topics_fit c.args.request.now c.len.result c.len.ensures c.requires.fits

pub serve_topic-requires-clause-fits : goal.serve_topic-requires-clause-fits
serve_topic-requires-clause-fits g c =
    let i = c.loop-topic.topic-index in
    topic_fits c.args.request.now i c.topic-item.result
    (subst (λ ts. i < length ts) c.as_slice-topic-items.ensures c.loop-topic-test.true)
    (c.topic-item.is ∙ ap (λ ts. get_or ts i c.topic-item.result) c.as_slice-topic-items.ensures)
    c.requires.fits

pub put-requires : goal.put-requires
put-requires g c κs = ((refl, tt), number_fits (pos 0))

pub returns-in_err-serve_topic-clause-step : goal.returns-in_err-serve_topic-clause-step
returns-in_err-serve_topic-clause-step g c =
    let log = g.L.PartitionLog.log in
    let disk = g.S.Store.disk in
    let a = scene log disk c.args.parts.now c.args.shelf.now in
    let b = scene log disk c.loop-topic.parts c.loop-topic.shelf in
    let d = scene log disk c.serve_topic.new.parts c.serve_topic.new.shelf in
    step_then a b d c.loop-topic.invariant.step c.serve_topic.ensures.step

pub loop-topic-init : goal.loop-topic-init
loop-topic-init g c = record {
  step = step_same (scene g.L.PartitionLog.log g.S.Store.disk c.args.parts.now c.args.shelf.now) c.requires.sound;
  told = λ honest agree calm. refl;
  answers = λ before now next since until later honest agree. ([], (sym (append-nil c.put_count.new.sink.bytes), refl));
  put = search rules;
}

pub loop-topic-preserved : goal.loop-topic-preserved
loop-topic-preserved g c =
    let log = g.L.PartitionLog.log in
    let disk = g.S.Store.disk in
    let a = scene log disk c.args.parts.now c.args.shelf.now in
    let b = scene log disk c.loop-topic.parts c.loop-topic.shelf in
    let d = scene log disk c.serve_topic.new.parts c.serve_topic.new.shelf in
    let terms = c.terms_of-terms.result in
    let write : ProduceTopicReplyV5 → _ = λ x. where_due terms.due (topic_written terms.has_starts x) in
    let f = served_topic terms.bytes terms.refusal in
    let p = progress b.state.world c.loop-topic.touched.items in
    let q = progress d.state.world c.serve_topic.new.touched.items in
    let i = c.loop-topic.topic-index in
    record {
      step = step_then a b d c.loop-topic.invariant.step c.serve_topic.ensures.step;
      told = meets_so a d _ _
          (told_next write f c.loop-topic.sink.bytes c.serve_topic.new.sink.bytes p q c.args.request.now.topics i c.topic-item.result _
          (subst (λ ts. i < length ts) c.as_slice-topic-items.ensures c.loop-topic-test.true)
          (c.topic-item.is ∙ ap (λ ts. get_or ts i c.topic-item.result) c.as_slice-topic-items.ensures))
          (meets_then a b d _ _ c.loop-topic.invariant.step c.serve_topic.ensures.step c.loop-topic.invariant.told c.in_ok-serve_topic.ensures.meets);
      answers = λ before now next since until later honest agree.
          let first = c.loop-topic.invariant.step in
          let second = c.serve_topic.ensures.step in
          let both = honest_then a b d _ _ first second (c.loop-topic.invariant.answers before now next since (failures_by b d now second until) (next_by b d next second later))
          (c.in_ok-serve_topic.ensures.told before now next (failures_since a b before first since) until later) honest agree in
          let earlier = both.0 in
          let reply = both.1 in (
            earlier.0 ++ reply.0 ∷ [],
            (
              written_more write c.put_count.new.sink.bytes c.loop-topic.sink.bytes c.serve_topic.new.sink.bytes earlier.0 reply.0 earlier.1.0 reply.1.0,
              served_next (IsTopicTold (FailedBy before now next) terms.bytes terms.refusal) (progress a.state.world c.args.touched.now.items) p q c.args.request.now.topics i c.topic-item.result earlier.0 reply.0
                  (subst (λ ts. i < length ts) c.as_slice-topic-items.ensures c.loop-topic-test.true)
                  (c.topic-item.is ∙ ap (λ ts. get_or ts i c.topic-item.result) c.as_slice-topic-items.ensures) earlier.1.1 reply.1.1,
            ),
          );
      put = topics_put terms.has_starts terms.due c.args.request.now.topics i c.topic-item.result c.put_count.new.sink c.loop-topic.sink c.serve_topic.new.sink (Ok tt)
          (subst (λ ts. i < length ts) c.as_slice-topic-items.ensures c.loop-topic-test.true)
          (c.topic-item.is ∙ ap (λ ts. get_or ts i c.topic-item.result) c.as_slice-topic-items.ensures) c.loop-topic.invariant.put c.in_ok-serve_topic.ensures.put;
    }

pub returns-clause-meets : goal.returns-clause-meets
returns-clause-meets g c =
    let log = g.L.PartitionLog.log in
    let disk = g.S.Store.disk in
    let a = scene log disk c.args.parts.now c.args.shelf.now in
    let b = scene log disk c.loop-topic.parts c.loop-topic.shelf in
    let request = c.args.request.now in
    let terms = c.terms_of-terms.result in
    let write : ProduceTopicReplyV5 → _ = λ x. where_due terms.due (topic_written terms.has_starts x) in
    let p = progress b.state.world c.loop-topic.touched.items in
    let i = c.loop-topic.topic-index in
    let over = turn_over write (served_topic terms.bytes terms.refusal) c.loop-topic.sink.bytes p request.topics i (subst (λ ts. length ts ≤ i) c.as_slice-topic-items.ensures c.loop-topic-test.false) in
    on_ok_weaker c.put.result
    (λ last. meets_so a b _ _
    (λ told. produce_told c.args.has_starts c.args.limit terms request a.state.world b.state.world c.args.touched.now.items c.loop-topic.touched.items c.len.result
    c.args.sink.now.bytes c.put_count.new.sink.bytes c.loop-topic.sink.bytes c.put.new.sink.bytes
    c.terms_of-terms.ensures.refusal c.terms_of-terms.ensures.due c.terms_of-terms.ensures.has_starts c.len.ensures (c.in_ok-put_count.ensures.bytes ∙ ap (λ s. s ++ where_due terms.due ((count w32).written c.len.result)) c.in_ok-make_room.ensures.bytes) (subst (λ n. (p, c.loop-topic.sink.bytes) ≡ written_behind write c.put_count.new.sink.bytes (in_turn (served_topic n terms.refusal) (progress a.state.world c.args.touched.now.items) request.topics)) c.terms_of-terms.ensures.bytes (sym over ∙ told)) last)
    c.loop-topic.invariant.told)
    c.put.ensures.bytes

pub returns-clause-told : goal.returns-clause-told
returns-clause-told g c =
    let log = g.L.PartitionLog.log in
    let disk = g.S.Store.disk in
    let a = scene log disk c.args.parts.now c.args.shelf.now in
    let b = scene log disk c.loop-topic.parts c.loop-topic.shelf in
    let request = c.args.request.now in
    let terms = c.terms_of-terms.result in
    let p = progress a.state.world c.args.touched.now.items in
    let q = progress b.state.world c.loop-topic.touched.items in
    let i = c.loop-topic.topic-index in
    on_ok_weaker c.put.result
    (λ last honest agree.
    let so = c.loop-topic.invariant.answers a.disk.failures b.disk.failures b.next (omega arith) (omega arith) (omega arith) honest agree in
    let all = served_all (IsTopicTold (HasFailed a b) terms.bytes terms.refusal) p q request.topics i so.0 (subst (λ ts. length ts ≤ i) c.as_slice-topic-items.ensures c.loop-topic-test.false) so.1.1 in
    produce_told_so (HasFailed a b) c.args.has_starts c.args.limit terms request p q c.len.result c.args.sink.now.bytes c.put_count.new.sink.bytes c.loop-topic.sink.bytes c.put.new.sink.bytes
    c.terms_of-terms.ensures.refusal c.terms_of-terms.ensures.due c.terms_of-terms.ensures.has_starts c.len.ensures (c.in_ok-put_count.ensures.bytes ∙ ap (λ s. s ++ where_due terms.due ((count w32).written c.len.result)) c.in_ok-make_room.ensures.bytes) (so.0, (so.1.0, subst (λ n. AreServed (IsTopicTold (HasFailed a b) n terms.refusal) p request.topics q so.0) c.terms_of-terms.ensures.bytes all)) last)
    c.put.ensures.bytes

pub returns-in_err-serve_topic-clause-spared : goal.returns-in_err-serve_topic-clause-spared
returns-in_err-serve_topic-clause-spared g c =
    let i = c.loop-topic.topic-index in
    absurd (topic_within c.terms_of-terms.result.has_starts c.terms_of-terms.result.due c.args.request.now i c.topic-item.result c.make_room.new.sink c.put_count.new.sink c.loop-topic.sink c.serve_topic.new.sink _
    (subst (λ ts. i < length ts) c.as_slice-topic-items.ensures c.loop-topic-test.true)
    (c.topic-item.is ∙ ap (λ ts. get_or ts i c.topic-item.result) c.as_slice-topic-items.ensures)
    (subst (λ f. length_due c.terms_of-terms.result.due (reply_length f c.args.request.now) ≤ c.make_room.new.sink.room) (sym c.terms_of-terms.ensures.has_starts) c.in_ok-make_room.ensures.room)
    c.in_ok-put_count.ensures.put c.loop-topic.invariant.put c.in_err-serve_topic.ensures.put)

pub returns-clause-spared : goal.returns-clause-spared
returns-clause-spared g c =
    let i = c.loop-topic.topic-index in
    let starts = c.terms_of-terms.result.has_starts in
    let due = c.terms_of-terms.result.due in
    let request = c.args.request.now in
    never_refused _ (length_due due (reply_length starts request)) c.make_room.new.sink c.put.new.sink c.put.result
    (subst (λ f. length_due due (reply_length f request) ≤ c.make_room.new.sink.room) (sym c.terms_of-terms.ensures.has_starts) c.in_ok-make_room.ensures.room)
    (reply_put starts due request i _ c.make_room.new.sink c.put_count.new.sink c.loop-topic.sink c.put.new.sink c.put.result
    (subst (λ ts. length ts ≤ i) c.as_slice-topic-items.ensures c.loop-topic-test.false) (number_length (pos 0))
    c.in_ok-put_count.ensures.put c.loop-topic.invariant.put c.put.ensures.put)

pub returns-clause-longer : goal.returns-clause-longer
returns-clause-longer g c =
    let i = c.loop-topic.topic-index in
    let request = c.args.request.now in
    let new = c.put.new.sink.bytes in
    let starts = c.terms_of-terms.result.has_starts in
    subst (λ f. OnOk c.put.result (IsLonger (length_due (is_due request.acks) (reply_length f request)) c.args.sink.now.bytes new)) c.terms_of-terms.ensures.has_starts
    (subst (λ d. OnOk c.put.result (IsLonger (length_due d (reply_length starts request)) c.args.sink.now.bytes new)) c.terms_of-terms.ensures.due
    (subst (λ s. OnOk c.put.result (IsLonger (length_due c.terms_of-terms.result.due (reply_length starts request)) s new)) c.in_ok-make_room.ensures.bytes
    (reply_put starts c.terms_of-terms.result.due request i _ c.make_room.new.sink c.put_count.new.sink c.loop-topic.sink c.put.new.sink c.put.result
    (subst (λ ts. length ts ≤ i) c.as_slice-topic-items.ensures c.loop-topic-test.false) (number_length (pos 0))
    c.in_ok-put_count.ensures.put c.loop-topic.invariant.put c.put.ensures.put).longer))
