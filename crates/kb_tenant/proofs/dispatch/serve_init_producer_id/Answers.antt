use Rattle.std.proofs.Common.{rules, ◌≡◌, ◌∙◌, ⊎_elim, Ok, ap, inl, inr, of_z, refl, subst, sym, to_z}
use Rattle.std.specs.Int.{w32}
use Rattle.std.specs.Prelude.{OnErr}
use Rattle.kb_api_data.specs.Layouts.{init_producer_id_reply}
use Rattle.kb_api_data.specs.declared.init_producer_id.InitProducerIdReply.{InitProducerIdReply}
use Rattle.kb_store.proofs.Seen.{on_err}
use Rattle.kb_tenant.specs.Replies.{begun}
use Rattle.kb_tenant.specs.Told.{AcknowledgesIssue, CatalogFailed, IsIssueCut, IsRepliedOrCut, IsShutUnchanged, TellsIssue}
use Rattle.kb_tenant.specs.declared.answer.Answer.TheVariants as answers
use Rattle.kb_tenant_state.specs.Parts.{scene, world_of}
use Rattle.kb_tenant_state.specs.Scene.{WhereHonest}
use Rattle.kb_tenant_state.specs.World.{World}
use Rattle.kb_tenant.proofs.Cutting.{issue_untouched, replied_or_cut}
use Rattle.kb_tenant.proofs.dispatch.serve_init_producer_id.Goals as goal

pub returns-clause-acknowledged : goal.returns-clause-acknowledged
returns-clause-acknowledged g c = λ honest agree.
    let log = g.L.PartitionLog.log in
    let disk = g.S.Store.disk in
    let w = world_of log c.args.parts.now (disk c.args.shelf.now.store).files in
    let v = world_of log c.init_producer_id.new.parts (disk c.init_producer_id.new.shelf.store).files in
    let failed = CatalogFailed (scene log disk c.args.parts.now c.args.shelf.now) (scene log disk c.init_producer_id.new.parts c.init_producer_id.new.shelf) in
    let request = c.args.request.now in
    let asked = c.in_ok-asked.asked in
    let id : to_z w32 (of_z w32 request.correlation_id) ≡ request.correlation_id = search rules in
    let told = c.in_ok-init_producer_id.ensures.told honest agree in
    let cut : IsIssueCut w asked v = ⊎_elim (λ done. inr (ap (λ (r : World × InitProducerIdReply). r.0) done)) (λ refused. inl refused.0) told.1.1 in (
      λ q read.
          let both : Ok asked ≡ Ok q = sym c.in_ok-asked.ensures.exact ∙ read in
          let one : asked ≡ q = cc in
          subst (λ x. IsRepliedOrCut request.correlation_id (TellsIssue failed w x v) (IsIssueCut w x v) c.finish.result) one
          (replied_or_cut request.correlation_id (TellsIssue failed w asked v) (IsIssueCut w asked v) c.in_ok-sink.sink.bytes
          c.init_producer_id.new.sink.bytes (init_producer_id_reply.written told.0) c.finish.result
          (c.in_ok-sink.ensures ∙ ap begun id) told.1.0 (told.0, (refl, told.1.1)) cut c.finish.ensures),
      subst (λ r. OnErr r (IsShutUnchanged w v c.finish.result)) (sym c.in_ok-asked.ensures.exact) tt,
    )

pub returns-in_err-asked-clause-cut : goal.returns-in_err-asked-clause-cut
returns-in_err-asked-clause-cut g c =
    let a = scene g.L.PartitionLog.log g.S.Store.disk c.args.parts.now c.args.shelf.now in
    on_err _ (issue_untouched a c.args.request.now.correlation_id c.args.request.now.body.now)

pub returns-in_err-sink-clause-cut : goal.returns-in_err-sink-clause-cut
returns-in_err-sink-clause-cut g c =
    let a = scene g.L.PartitionLog.log g.S.Store.disk c.args.parts.now c.args.shelf.now in
    on_err _ (issue_untouched a c.args.request.now.correlation_id c.args.request.now.body.now)

pub returns-in_err-init_producer_id-clause-cut : goal.returns-in_err-init_producer_id-clause-cut
returns-in_err-init_producer_id-clause-cut g c =
    let log = g.L.PartitionLog.log in
    let disk = g.S.Store.disk in
    let a = scene log disk c.args.parts.now c.args.shelf.now in
    let b = scene log disk c.init_producer_id.new.parts c.init_producer_id.new.shelf in
    let request = c.args.request.now in
    let asked = c.in_ok-asked.asked in
    let is : WhereHonest a b (AcknowledgesIssue (CatalogFailed a b) request.correlation_id a.state.world request.body.now b.state.world answers.Shut) = λ honest agree. (
      λ q read.
          let both : Ok asked ≡ Ok q = sym c.in_ok-asked.ensures.exact ∙ read in
          let one : asked ≡ q = cc in
          subst (λ x. IsIssueCut a.state.world x b.state.world) one (c.in_err-init_producer_id.ensures.cut honest agree),
      subst (λ r. OnErr r (IsShutUnchanged a.state.world b.state.world answers.Shut)) (sym c.in_ok-asked.ensures.exact) tt,
    ) in
    on_err _ is
