use Rattle.std.proofs.Common.{rules, ◌≡◌, ◌∙◌, [], List, Ok, ap, of_z, refl, subst, sym, to_z}
use Rattle.std.specs.Int.{w32}
use Rattle.std.specs.Prelude.{OnErr}
use Rattle.kb_api_data.specs.Layouts.{delete_records_reply}
use Rattle.kb_tenant.specs.Replies.{begun}
use Rattle.kb_tenant.specs.Told.{AcknowledgesDeletions, AreTrimsCut, AreTrimsTold, CatalogFailed, IsRepliedOrCut, IsTrimTopicCut, IsTrimTopicTold, IsTurnedAway}
use Rattle.kb_tenant.specs.Told.{TellsDeletions}
use Rattle.kb_store.proofs.Seen.{on_err}
use Rattle.kb_tenant_state.specs.Parts.{scene, world_of}
use Rattle.kb_tenant_state.specs.Scene.{WhereHonest}
use Rattle.kb_tenant_state.specs.World.{World}
use Rattle.kb_tenant_state.specs.declared.topic_partition.TopicPartition.{TopicPartition}
use Rattle.kb_tenant.specs.declared.answer.Answer.TheVariants as answers
use Rattle.kb_tenant.proofs.Cutting.{into_all, replied_or_cut, trims_untouched}
use Rattle.kb_tenant.proofs.dispatch.serve_delete_records.Goals as goal

pub returns-clause-acknowledged : goal.returns-clause-acknowledged
returns-clause-acknowledged g c = λ honest agree.
    let log = g.L.PartitionLog.log in
    let disk = g.S.Store.disk in
    let w = world_of log c.args.parts.now (disk c.args.shelf.now.store).files in
    let v = world_of log c.delete_records.new.parts (disk c.delete_records.new.shelf.store).files in
    let failed = CatalogFailed (scene log disk c.args.parts.now c.args.shelf.now)
    (scene log disk c.delete_records.new.parts c.delete_records.new.shelf) in
    let request = c.args.request.now in
    let asked = c.in_ok-asked.asked in
    let touched = c.delete_records.new.touched.items in
    let id : to_z w32 (of_z w32 request.correlation_id) ≡ request.correlation_id = search rules in
    let told = c.in_ok-delete_records.ensures.told honest agree in
    let start : World × List TopicPartition = (w, []) in
    let all = subst (λ places. AreTrimsTold failed (w, places) asked (v, touched) told.0) c.requires.untouched told.1.1 in
    let cut : AreTrimsCut failed start asked (v, touched) =
    into_all (IsTrimTopicTold failed) (IsTrimTopicCut failed) start (v, touched) asked.topics told.0.topics all.1 in (
      λ q read.
          let both : Ok asked ≡ Ok q = sym c.in_ok-asked.ensures.spelled ∙ read in
          let one : asked ≡ q = cc in
          subst (λ x. IsRepliedOrCut request.correlation_id (TellsDeletions failed w x v touched) (AreTrimsCut failed start x (v, touched))
          c.finish.result) one
          (replied_or_cut request.correlation_id (TellsDeletions failed w asked v touched) (AreTrimsCut failed start asked (v, touched))
          c.in_ok-sink.sink.bytes c.delete_records.new.sink.bytes (delete_records_reply.written told.0) c.finish.result
          (c.in_ok-sink.ensures ∙ ap begun id) told.1.0 (told.0, (refl, all)) cut c.finish.ensures),
      subst (λ r. OnErr r (IsTurnedAway w v touched c.finish.result)) (sym c.in_ok-asked.ensures.exact) tt,
    )

pub returns-in_err-asked-clause-cut : goal.returns-in_err-asked-clause-cut
returns-in_err-asked-clause-cut g c =
    let a = scene g.L.PartitionLog.log g.S.Store.disk c.args.parts.now c.args.shelf.now in
    let request = c.args.request.now in
    on_err _ (trims_untouched a c.args.limit request.correlation_id request.body.now c.args.touched.now.items c.requires.untouched)

pub returns-in_err-sink-clause-cut : goal.returns-in_err-sink-clause-cut
returns-in_err-sink-clause-cut g c =
    let a = scene g.L.PartitionLog.log g.S.Store.disk c.args.parts.now c.args.shelf.now in
    let request = c.args.request.now in
    on_err _ (trims_untouched a c.args.limit request.correlation_id request.body.now c.args.touched.now.items c.requires.untouched)

pub returns-in_err-delete_records-clause-cut : goal.returns-in_err-delete_records-clause-cut
returns-in_err-delete_records-clause-cut g c =
    let log = g.L.PartitionLog.log in
    let disk = g.S.Store.disk in
    let a = scene log disk c.args.parts.now c.args.shelf.now in
    let b = scene log disk c.delete_records.new.parts c.delete_records.new.shelf in
    let request = c.args.request.now in
    let asked = c.in_ok-asked.asked in
    let touched = c.delete_records.new.touched.items in
    let start : World × List TopicPartition = (a.state.world, []) in
    let end : World × List TopicPartition = (b.state.world, touched) in
    let is : WhereHonest a b (AcknowledgesDeletions (CatalogFailed a b) c.args.limit request.correlation_id a.state.world
    request.body.now b.state.world touched answers.Shut) = λ honest agree.
    let cut = subst (λ (places : List TopicPartition). AreTrimsCut (CatalogFailed a b) (a.state.world, places) asked end)
    c.requires.untouched (c.in_err-delete_records.ensures.cut honest agree) in (
      λ q read.
          let both : Ok asked ≡ Ok q = sym c.in_ok-asked.ensures.spelled ∙ read in
          let one : asked ≡ q = cc in
          subst (λ x. AreTrimsCut (CatalogFailed a b) start x end) one cut,
      subst (λ r. OnErr r (IsTurnedAway a.state.world b.state.world touched answers.Shut)) (sym c.in_ok-asked.ensures.exact) tt,
    ) in
    on_err _ is
