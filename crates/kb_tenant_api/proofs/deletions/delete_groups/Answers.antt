use Rattle.std.proofs.Common.{rules, ◌≡◌, ◌∙◌, ◌++◌, sym, ap, refl, subst, Ok, of_z, to_z, w32}
use Rattle.kb_api_group.specs.Layouts.{delete_groups_reply, delete_groups_request}
use Rattle.kb_coordinator.specs.Groups.{Groups, silent}
use Rattle.kb_tenant.specs.Entries.{delete_groups_entries, within}
use Rattle.kb_tenant.specs.Replies.{begun}
use Rattle.kb_tenant.specs.Told.{CatalogFailed, IsRepliedOrCut}
use Rattle.kb_tenant.specs.Turns.{in_turn, AreServed}
use Rattle.kb_tenant.specs.declared.answer.Answer.TheVariants as plain
use Rattle.kb_tenant.proofs.Cutting.{first_all, replied_or_cut}
use Rattle.kb_store.proofs.Seen.{on_err}
use Rattle.kb_tenant_state.specs.Scene.{WhereHonest}
use Rattle.kb_tenant_state.specs.World.{World}
use Rattle.std.specs.Prelude.{OnErr}
use Rattle.kb_tenant_state.specs.Parts.{scene, world_of}
use Rattle.kb_wire.specs.Codec.{whole}
use Rattle.kb_tenant_api.specs.Acknowledged.{AcknowledgesGroupDeletions, AreGroupDeletionsCut, AreGroupsLeft, HaveGone}
use Rattle.kb_tenant_api.specs.Acknowledged.{IsGroupDeletionTold, TellsGroupDeletions}
use Rattle.kb_tenant_api.specs.Deletions.{deleted_entry, deletions}
use Rattle.kb_tenant_api.specs.Serve.{of_delete}
use Rattle.kb_tenant_api.specs.declared.answer.Answer.TheVariants as answers
use Rattle.kb_tenant_api.proofs.Deleting.{deletions_untouched, gone_none, request_deletes}
use Rattle.kb_tenant_api.proofs.Joining.{was_read}
use Rattle.kb_tenant_api.proofs.deletions.delete_groups.Goals as goal

pub returns-clause-meets : goal.returns-clause-meets
returns-clause-meets g c = λ honest agree calm.
    let w = world_of g.L.PartitionLog.log c.args.parts.now (g.S.Store.disk c.args.shelf.now.store).files in
    let after = world_of g.L.PartitionLog.log c.delete_each.new.parts (g.S.Store.disk c.delete_each.new.shelf.store).files in
    let request = c.args.request.now in
    let asked = c.in_ok-asked.asked in
    let gs = c.args.groups.now in
    let quiet = c.silence.new.self in
    let body = delete_groups_reply.written (deletions (in_turn deleted_entry (w, quiet) asked.group_ids).1) in
    let met = c.in_ok-delete_each.ensures.meets honest agree calm in
    let id : to_z w32 (of_z w32 request.correlation_id) ≡ request.correlation_id = search rules in
    was_read request.correlation_id w after gs c.delete_each.new.groups (within c.args.limit delete_groups_entries (whole delete_groups_request request.body.now)) asked (of_delete w gs) (answers.Plain c.finish.result) c.in_ok-asked.ensures.exact
    (request_deletes request.correlation_id w after gs quiet c.delete_each.new.groups asked (answers.Plain c.finish.result) c.silence.ensures met.0
    (c.finish.ensures request.correlation_id body (met.1 ∙ ap (λ s. s ++ body) (c.in_ok-sink.ensures ∙ ap begun id))))

pub returns-clause-acknowledged : goal.returns-clause-acknowledged
returns-clause-acknowledged g c = λ honest agree.
    let log = g.L.PartitionLog.log in
    let disk = g.S.Store.disk in
    let w = world_of log c.args.parts.now (disk c.args.shelf.now.store).files in
    let v = world_of log c.delete_each.new.parts (disk c.delete_each.new.shelf.store).files in
    let failed = CatalogFailed (scene log disk c.args.parts.now c.args.shelf.now) (scene log disk c.delete_each.new.parts c.delete_each.new.shelf) in
    let request = c.args.request.now in
    let gs = c.args.groups.now in
    let asked = c.in_ok-asked.asked in
    let start : World × Groups = (w, silent gs) in
    let end : World × Groups = (v, c.delete_each.new.groups) in
    let answer = answers.Plain c.finish.result in
    let id : to_z w32 (of_z w32 request.correlation_id) ≡ request.correlation_id = search rules in
    let told = c.in_ok-delete_each.ensures.told honest agree in
    let all = subst (λ (x : Groups). AreServed (IsGroupDeletionTold failed) (w, x) asked.group_ids end told.0) c.silence.ensures told.1.1 in
    let cut : AreGroupDeletionsCut failed start asked end = first_all (IsGroupDeletionTold failed) start end asked.group_ids told.0 all in (
      λ q read.
          let both : Ok asked ≡ Ok q = sym c.in_ok-asked.ensures.spelled ∙ read in
          let one : asked ≡ q = cc in
          subst (λ x. IsRepliedOrCut request.correlation_id (TellsGroupDeletions failed start x end) (AreGroupDeletionsCut failed start x end)
          c.finish.result) one
          (replied_or_cut request.correlation_id (TellsGroupDeletions failed start asked end) (AreGroupDeletionsCut failed start asked end)
          c.in_ok-sink.sink.bytes c.delete_each.new.sink.bytes (delete_groups_reply.written (deletions told.0)) c.finish.result
          (c.in_ok-sink.ensures ∙ ap begun id) told.1.0 (told.0, (refl, all)) cut c.finish.ensures),
      subst (λ r. OnErr r (AreGroupsLeft start end answer)) (sym c.in_ok-asked.ensures.exact) tt,
    )

pub returns-in_err-asked-clause-cut : goal.returns-in_err-asked-clause-cut
returns-in_err-asked-clause-cut g c =
    let a = scene g.L.PartitionLog.log g.S.Store.disk c.args.parts.now c.args.shelf.now in
    let request = c.args.request.now in
    on_err _ (deletions_untouched a c.args.limit request.correlation_id request.body.now c.args.groups.now c.silence.new.self c.silence.ensures)

pub returns-in_err-sink-clause-cut : goal.returns-in_err-sink-clause-cut
returns-in_err-sink-clause-cut g c =
    let a = scene g.L.PartitionLog.log g.S.Store.disk c.args.parts.now c.args.shelf.now in
    let request = c.args.request.now in
    on_err _ (deletions_untouched a c.args.limit request.correlation_id request.body.now c.args.groups.now c.silence.new.self c.silence.ensures)

pub returns-in_err-delete_each-clause-cut : goal.returns-in_err-delete_each-clause-cut
returns-in_err-delete_each-clause-cut g c =
    let log = g.L.PartitionLog.log in
    let disk = g.S.Store.disk in
    let a = scene log disk c.args.parts.now c.args.shelf.now in
    let b = scene log disk c.delete_each.new.parts c.delete_each.new.shelf in
    let request = c.args.request.now in
    let gs = c.args.groups.now in
    let asked = c.in_ok-asked.asked in
    let new = c.delete_each.new.groups in
    let failed = CatalogFailed a b in
    let start : World × Groups = (a.state.world, silent gs) in
    let end : World × Groups = (b.state.world, new) in
    let shut = answers.Plain plain.Shut in
    let is : WhereHonest a b (AcknowledgesGroupDeletions failed c.args.limit request.correlation_id gs a.state.world request.body.now
    b.state.world new shut) = λ honest agree.
    let cut = subst (λ (x : Groups). AreGroupDeletionsCut failed (a.state.world, x) asked end) c.silence.ensures
    (c.in_err-delete_each.ensures.cut honest agree) in (
      λ q read.
          let both : Ok asked ≡ Ok q = sym c.in_ok-asked.ensures.spelled ∙ read in
          let one : asked ≡ q = cc in
          subst (λ x. AreGroupDeletionsCut failed start x end) one cut,
      subst (λ r. OnErr r (AreGroupsLeft start end shut)) (sym c.in_ok-asked.ensures.exact) tt,
    ) in
    on_err _ is

pub returns-in_err-asked-clause-fewer : goal.returns-in_err-asked-clause-fewer
returns-in_err-asked-clause-fewer g c = subst (λ x. HaveGone x c.silence.new.self) c.silence.ensures (gone_none c.silence.new.self)

pub returns-in_err-sink-clause-fewer : goal.returns-in_err-sink-clause-fewer
returns-in_err-sink-clause-fewer g c = subst (λ x. HaveGone x c.silence.new.self) c.silence.ensures (gone_none c.silence.new.self)

pub returns-in_err-delete_each-clause-fewer : goal.returns-in_err-delete_each-clause-fewer
returns-in_err-delete_each-clause-fewer g c = subst (λ x. HaveGone x c.delete_each.new.groups) c.silence.ensures c.delete_each.ensures.fewer

pub returns-clause-fewer : goal.returns-clause-fewer
returns-clause-fewer g c = subst (λ x. HaveGone x c.delete_each.new.groups) c.silence.ensures c.delete_each.ensures.fewer
