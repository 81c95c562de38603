use Rattle.std.proofs.Common.{rules, ◌≡◌, ◌∙◌, ◌++◌, [], List, Ok, ap, of_z, refl, subst, sym, to_z}
use Rattle.std.specs.Int.{w16, w32}
use Rattle.std.specs.Prelude.{OnErr}
use Rattle.kb_wire.specs.Codec.{whole}
use Rattle.kb_api_data.specs.Layouts.{delete_topics_request}
use Rattle.kb_api_data.specs.declared.delete_topics.DeleteTopicsReply.{DeleteTopicsReply}
use Rattle.kb_tenant.specs.DeleteTopics.{deleted_all, deletions_in}
use Rattle.kb_tenant.specs.Entries.{delete_topics_entries, within}
use Rattle.kb_tenant.specs.Serve.{if_read, of_delete_topics, IsServed}
use Rattle.kb_tenant_state.specs.declared.topic_partition.TopicPartition.{TopicPartition}
use Rattle.kb_tenant.specs.Replies.{begun}
use Rattle.kb_tenant.specs.Told.{AcknowledgesRemovals, AreRemovalsCut, CatalogFailed, IsRemovalTold, IsRepliedOrCut, IsTurnedAway, TellsRemovals}
use Rattle.kb_tenant.specs.Turns.{AreServed}
use Rattle.kb_store.proofs.Seen.{on_err}
use Rattle.kb_tenant_state.specs.Parts.{scene, world_of}
use Rattle.kb_tenant_state.specs.Scene.{WhereHonest}
use Rattle.kb_tenant_state.specs.World.{World}
use Rattle.kb_tenant.specs.declared.answer.Answer.TheVariants as answers
use Rattle.kb_tenant.proofs.Cutting.{first_all, removals_untouched, replied_or_cut}
use Rattle.kb_tenant.proofs.dispatch.serve_delete_topics.Goals as goal

pub returns-clause-meets : goal.returns-clause-meets
returns-clause-meets g c = λ honest agree calm.
    let w = world_of g.L.PartitionLog.log c.args.parts.now (g.S.Store.disk c.args.shelf.now.store).files in
    let v = world_of g.L.PartitionLog.log c.delete_topics.new.parts (g.S.Store.disk c.delete_topics.new.shelf.store).files in
    let request = c.args.request.now in
    let version = request.api_version in
    let asked = c.in_ok-asked.asked in
    let places = c.delete_topics.new.touched.items in
    let out = c.in_ok-sink.sink.bytes in
    let reply = (deleted_all (w, []) asked).1 in
    let body = deletions_in version reply in
    let id : to_z w32 (of_z w32 request.correlation_id) ≡ request.correlation_id = search rules in
    let same : to_z w16 (of_z w16 version) ≡ version = search rules in
    let read : within c.args.limit delete_topics_entries (whole delete_topics_request request.body.now) ≡ Ok asked = c.in_ok-asked.ensures.exact in
    let met = subst (λ (old : List TopicPartition). let d = deleted_all (w, old) asked in (v ≡ d.0.0) × (places ≡ d.0.1) × (c.delete_topics.new.sink.bytes ≡ out ++ deletions_in (to_z w16 (of_z w16 version)) d.1))
    c.requires.untouched (c.in_ok-delete_topics.ensures.meets honest agree calm) in
    subst (λ r. IsServed request.correlation_id (if_read w r (of_delete_topics version w)) v places (Ok c.finish.result)) (sym read)
    (met.0, met.1, c.finish.ensures request.correlation_id body (met.2 ∙ ap (λ x. out ++ deletions_in x reply) same ∙ ap (λ s. s ++ body) (c.in_ok-sink.ensures ∙ ap begun id)))

pub returns-clause-acknowledged : goal.returns-clause-acknowledged
returns-clause-acknowledged g c = λ honest agree.
    let log = g.L.PartitionLog.log in
    let disk = g.S.Store.disk in
    let w = world_of log c.args.parts.now (disk c.args.shelf.now.store).files in
    let v = world_of log c.delete_topics.new.parts (disk c.delete_topics.new.shelf.store).files in
    let failed = CatalogFailed (scene log disk c.args.parts.now c.args.shelf.now)
    (scene log disk c.delete_topics.new.parts c.delete_topics.new.shelf) in
    let request = c.args.request.now in
    let version = request.api_version in
    let asked = c.in_ok-asked.asked in
    let touched = c.delete_topics.new.touched.items in
    let out = c.in_ok-sink.sink.bytes in
    let id : to_z w32 (of_z w32 request.correlation_id) ≡ request.correlation_id = search rules in
    let same : to_z w16 (of_z w16 version) ≡ version = search rules in
    let told = c.in_ok-delete_topics.ensures.told honest agree in
    let reply : DeleteTopicsReply = record { topics = told.0 } in
    let start : World × List TopicPartition = (w, []) in
    let all = subst (λ places. AreServed (IsRemovalTold failed) (w, places) asked.names (v, touched) told.0) c.requires.untouched told.1.1 in
    let cut : AreRemovalsCut failed start asked (v, touched) =
    first_all (IsRemovalTold failed) start (v, touched) asked.names told.0 all in (
      λ q read.
          let both : Ok asked ≡ Ok q = sym c.in_ok-asked.ensures.spelled ∙ read in
          let one : asked ≡ q = cc in
          subst (λ x. IsRepliedOrCut request.correlation_id (TellsRemovals failed version w x v touched)
          (AreRemovalsCut failed start x (v, touched)) c.finish.result) one
          (replied_or_cut request.correlation_id (TellsRemovals failed version w asked v touched)
          (AreRemovalsCut failed start asked (v, touched)) out c.delete_topics.new.sink.bytes (deletions_in version reply)
          c.finish.result (c.in_ok-sink.ensures ∙ ap begun id) (told.1.0 ∙ ap (λ x. out ++ deletions_in x reply) same)
          (told.0, (refl, all)) cut c.finish.ensures),
      subst (λ r. OnErr r (IsTurnedAway w v touched c.finish.result)) (sym c.in_ok-asked.ensures.exact) tt,
    )

pub returns-in_err-asked-clause-cut : goal.returns-in_err-asked-clause-cut
returns-in_err-asked-clause-cut g c =
    let a = scene g.L.PartitionLog.log g.S.Store.disk c.args.parts.now c.args.shelf.now in
    let request = c.args.request.now in
    on_err _ (removals_untouched a c.args.limit request.correlation_id request.api_version request.body.now c.args.touched.now.items c.requires.untouched)

pub returns-in_err-sink-clause-cut : goal.returns-in_err-sink-clause-cut
returns-in_err-sink-clause-cut g c =
    let a = scene g.L.PartitionLog.log g.S.Store.disk c.args.parts.now c.args.shelf.now in
    let request = c.args.request.now in
    on_err _ (removals_untouched a c.args.limit request.correlation_id request.api_version request.body.now c.args.touched.now.items c.requires.untouched)

pub returns-in_err-delete_topics-clause-cut : goal.returns-in_err-delete_topics-clause-cut
returns-in_err-delete_topics-clause-cut g c =
    let log = g.L.PartitionLog.log in
    let disk = g.S.Store.disk in
    let a = scene log disk c.args.parts.now c.args.shelf.now in
    let b = scene log disk c.delete_topics.new.parts c.delete_topics.new.shelf in
    let request = c.args.request.now in
    let asked = c.in_ok-asked.asked in
    let touched = c.delete_topics.new.touched.items in
    let start : World × List TopicPartition = (a.state.world, []) in
    let end : World × List TopicPartition = (b.state.world, touched) in
    let is : WhereHonest a b (AcknowledgesRemovals (CatalogFailed a b) c.args.limit request.correlation_id request.api_version a.state.world
    request.body.now b.state.world touched answers.Shut) = λ honest agree.
    let cut = subst (λ (places : List TopicPartition). AreRemovalsCut (CatalogFailed a b) (a.state.world, places) asked end)
    c.requires.untouched (c.in_err-delete_topics.ensures.cut honest agree) in (
      λ q read.
          let both : Ok asked ≡ Ok q = sym c.in_ok-asked.ensures.spelled ∙ read in
          let one : asked ≡ q = cc in
          subst (λ x. AreRemovalsCut (CatalogFailed a b) start x end) one cut,
      subst (λ r. OnErr r (IsTurnedAway a.state.world b.state.world touched answers.Shut)) (sym c.in_ok-asked.ensures.exact) tt,
    ) in
    on_err _ is
