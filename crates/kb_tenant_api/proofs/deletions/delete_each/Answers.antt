use Rattle.std.proofs.Common.{◌≡◌, ◌∙◌, ◌++◌, ◌+◌, [], ◌∷◌, append-nil, append_assoc, length, of_z, sym, ap, refl, subst, take, to_z, w16, w32, ℕ, List, pos}
use Rattle.std.specs.List.{flat_map}
use Rattle.std.proofs.lemmas.Int.{to_z-of_z}
use Rattle.kb_wire.specs.Codec.{array, count, int32, string}
use Rattle.kb_api_group.specs.Layouts.{delete_groups_reply, deleted_group}
use Rattle.kb_api_group.specs.declared.delete_groups.DeletedGroup.{DeletedGroup}
use Rattle.kb_coordinator.specs.Groups.{Groups}
use Rattle.kb_store.proofs.Seen.{on_err}
use Rattle.kb_tenant_state.specs.Scene.{Scene, WhereHonest}
use Rattle.kb_tenant_state.specs.Parts.{Seen, scene}
use Rattle.kb_tenant_state.specs.Steps.{step_same, step_then, meets_then, meets_so}
use Rattle.kb_tenant_state.specs.World.{World}
use Rattle.kb_tenant.specs.Told.{CatalogFailed}
use Rattle.kb_tenant.specs.Turns.{in_turn, AreFirstServed, AreServed}
use Rattle.kb_tenant.proofs.Acknowledging.{honest_then, served_all, served_length, served_next, written_more}
use Rattle.kb_tenant.proofs.Fitting.{array_written, written_both}
use Rattle.kb_tenant.proofs.Replies.{entry_next, entries_over, count_fits, item_fits}
use Rattle.kb_tenant_api.specs.Acknowledged.{AreGroupDeletionsCut, IsGroupDeletionTold}
use Rattle.kb_tenant_api.specs.Deletions.{deleted_entry, deletions}
use Rattle.kb_tenant_api.proofs.Deleting.{deleted_fits, deletion_behind, deletion_told_so, deletions_before, entry_is, gone_more, gone_none, id_short, ids_fit, reply_written}
use Rattle.kb_tenant_api.proofs.deletions.delete_each.Goals as goal

pub put_count-requires : goal.put_count-requires
put_count-requires g c =
    let fits = subst (array string).Fits (sym c.as_slice-ids.ensures) (ids_fit c.args.request.now c.requires.fits) in
    count_fits string c.as_slice-ids.result.now fits

pub delete_group-requires-clause-text : goal.delete_group-requires-clause-text
delete_group-requires-clause-text g c =
    let fits = subst (array string).Fits (sym c.as_slice-ids.ensures) (ids_fit c.args.request.now c.requires.fits) in
    let t = c.id-item.result in
    id_short t _ c.as_str-id.ensures (item_fits string c.as_slice-ids.result.now c.loop-id.id-index t c.loop-id-test.true c.id-item.is fits)

pub write-requires : goal.write-requires
write-requires g c =
    let fits = subst (array string).Fits (sym c.as_slice-ids.ensures) (ids_fit c.args.request.now c.requires.fits) in
    let t = c.id-item.result in
    λ k. ((refl, tt), deleted_fits t _ _ (c.new.ensures ∙ c.as_str-id.ensures) (item_fits string c.as_slice-ids.result.now c.loop-id.id-index t c.loop-id-test.true c.id-item.is fits))

pub returns-in_err-write-clause-step : goal.returns-in_err-write-clause-step
returns-in_err-write-clause-step g c =
    let log = g.L.PartitionLog.log in
    let disk = g.S.Store.disk in
    let a : Scene Seen = scene log disk c.args.parts.now c.args.shelf.now in
    let b : Scene Seen = scene log disk c.loop-id.parts c.loop-id.shelf in
    let d : Scene Seen = scene log disk c.delete_group.new.parts c.delete_group.new.shelf in
    step_then a b d c.loop-id.invariant.step c.delete_group.ensures.step

pub returns-in_err-write-clause-fewer : goal.returns-in_err-write-clause-fewer
returns-in_err-write-clause-fewer g c =
    gone_more _ c.args.groups.now c.loop-id.groups c.delete_group.new.groups c.loop-id.invariant.fewer c.delete_group.ensures.fewer

pub loop-id-init : goal.loop-id-init
loop-id-init g c = record {
  step = step_same (scene g.L.PartitionLog.log g.S.Store.disk c.args.parts.now c.args.shelf.now) c.requires.sound;
  fewer = gone_none c.args.groups.now;
  told = λ honest agrees calm. refl;
  answers = λ honest agree. ([], (sym (append-nil c.put_count.new.self.bytes), refl));
}

pub loop-id-preserved : goal.loop-id-preserved
loop-id-preserved g c =
    let log = g.L.PartitionLog.log in
    let disk = g.S.Store.disk in
    let a : Scene Seen = scene log disk c.args.parts.now c.args.shelf.now in
    let b : Scene Seen = scene log disk c.loop-id.parts c.loop-id.shelf in
    let d : Scene Seen = scene log disk c.delete_group.new.parts c.delete_group.new.shelf in
    let ids = c.as_slice-ids.result.now in
    let old = c.loop-id.groups in
    let now = c.delete_group.new.groups in
    let i = c.loop-id.id-index in
    let t = c.id-item.result in
    let sent = to_z-of_z w16 c.delete_group.result (record { sfits = c.delete_group.type_inv }) in
    record {
      step = step_then a b d c.loop-id.invariant.step c.delete_group.ensures.step;
      fewer = gone_more _ c.args.groups.now old now c.loop-id.invariant.fewer c.delete_group.ensures.fewer;
      told = meets_so a d _ _ (λ both. entry_next deleted_group deleted_entry c.loop-id.sink.bytes c.write.new.sink.bytes (b.state.world, old) (d.state.world, now) _ ids i t _ c.loop-id-test.true c.id-item.is c.in_ok-write.ensures.ok
          (entry_is b.state.world d.state.world old now t c.as_str-id.result.now c.new.result c.delete_group.result _ c.as_str-id.ensures c.new.ensures sent both.1) both.0)
          (meets_then a b d _ _ c.loop-id.invariant.step c.delete_group.ensures.step c.loop-id.invariant.told c.delete_group.ensures.meets);
      answers = λ honest agree.
          let reply : DeletedGroup = record { group_id = c.new.result; error_code = to_z w16 (of_z w16 c.delete_group.result) } in
          let first = c.loop-id.invariant.step in
          let second = c.delete_group.ensures.step in
          let both = honest_then a b d _ _ first second c.loop-id.invariant.answers
          (deletion_told_so b d old now t c.as_str-id.result.now c.new.result c.delete_group.result reply.error_code second c.as_str-id.ensures c.new.ensures sent c.delete_group.ensures.told) honest agree in
          let before = both.0 in (
            before.0 ++ reply ∷ [],
            (
              written_more deleted_group.written c.put_count.new.self.bytes c.loop-id.sink.bytes c.write.new.sink.bytes before.0 reply before.1.0 c.in_ok-write.ensures.ok,
              served_next (IsGroupDeletionTold (CatalogFailed a d)) (a.state.world, c.args.groups.now) (b.state.world, old) (d.state.world, now) ids i t before.0 reply c.loop-id-test.true c.id-item.is
                  (deletions_before a b d second (take i ids) (a.state.world, c.args.groups.now) (b.state.world, old) before.0 before.1.1)
                  (deletion_behind a b d first (b.state.world, old) t (d.state.world, now) reply both.1),
            ),
          );
    }

pub returns-clause-meets : goal.returns-clause-meets
returns-clause-meets g c = λ honest agrees calm.
    let log = g.L.PartitionLog.log in
    let disk = g.S.Store.disk in
    let a : Scene Seen = scene log disk c.args.parts.now c.args.shelf.now in
    let b : Scene Seen = scene log disk c.loop-id.parts c.loop-id.shelf in
    let ids = c.as_slice-ids.result.now in
    let start = c.args.sink.now.bytes in
    let head = c.put_i32.new.self.bytes in
    let end = c.loop-id.sink.bytes in
    let s : World × Groups = (a.state.world, c.args.groups.now) in
    let t : World × Groups = (b.state.world, c.loop-id.groups) in
    let over = entries_over deleted_group deleted_entry head c.put_count.new.self.bytes end s t ids c.loop-id.id-index c.loop-id-test.false c.in_ok-put_count.ensures.ok (c.loop-id.invariant.told honest agrees calm) in
    let results = (in_turn deleted_entry s ids).1 in
    let bytes : end ≡ start ++ delete_groups_reply.written (deletions results) =
    over.1 ∙ ap (λ x. x ++ (array deleted_group).written results) c.in_ok-put_i32.ensures.ok ∙ append_assoc start (int32.written (pos 0)) ((array deleted_group).written results) ∙ ap (λ x. start ++ x) (reply_written results) in
    subst (λ (xs : List (List ℕ)). let r = in_turn deleted_entry s xs in (t ≡ r.0) × (end ≡ start ++ delete_groups_reply.written (deletions r.1))) c.as_slice-ids.ensures (over.0, bytes)

pub returns-clause-told : goal.returns-clause-told
returns-clause-told g c = λ honest agree.
    let log = g.L.PartitionLog.log in
    let disk = g.S.Store.disk in
    let a : Scene Seen = scene log disk c.args.parts.now c.args.shelf.now in
    let b : Scene Seen = scene log disk c.loop-id.parts c.loop-id.shelf in
    let ids = c.as_slice-ids.result.now in
    let start = c.args.sink.now.bytes in
    let head = c.put_i32.new.self.bytes in
    let end = c.loop-id.sink.bytes in
    let s : World × Groups = (a.state.world, c.args.groups.now) in
    let t : World × Groups = (b.state.world, c.loop-id.groups) in
    let so = c.loop-id.invariant.answers honest agree in
    let all = served_all (IsGroupDeletionTold (CatalogFailed a b)) s t ids c.loop-id.id-index so.0 c.loop-id-test.false so.1.1 in
    let many = sym (served_length (IsGroupDeletionTold (CatalogFailed a b)) s t ids so.0 all) in
    let rest : end ≡ head ++ (array deleted_group).written so.0 =
    written_both head c.put_count.new.self.bytes end ((count w32).written (length ids)) (flat_map deleted_group.written so.0) c.in_ok-put_count.ensures.ok so.1.0
    ∙ ap (λ x. head ++ x) (array_written deleted_group so.0 (length ids) many) in
    let bytes : end ≡ start ++ delete_groups_reply.written (deletions so.0) =
    rest ∙ ap (λ x. x ++ (array deleted_group).written so.0) c.in_ok-put_i32.ensures.ok ∙ append_assoc start (int32.written (pos 0)) ((array deleted_group).written so.0) ∙ ap (λ x. start ++ x) (reply_written so.0) in
    subst (λ (xs : List (List ℕ)). (results : List DeletedGroup) × ((end ≡ start ++ delete_groups_reply.written (deletions results)) × AreServed (IsGroupDeletionTold (CatalogFailed a b)) s xs t results)) c.as_slice-ids.ensures (so.0, (bytes, all))

pub returns-in_err-write-clause-cut : goal.returns-in_err-write-clause-cut
returns-in_err-write-clause-cut g c =
    let log = g.L.PartitionLog.log in
    let disk = g.S.Store.disk in
    let a : Scene Seen = scene log disk c.args.parts.now c.args.shelf.now in
    let b : Scene Seen = scene log disk c.loop-id.parts c.loop-id.shelf in
    let d : Scene Seen = scene log disk c.delete_group.new.parts c.delete_group.new.shelf in
    let ids = c.as_slice-ids.result.now in
    let old = c.loop-id.groups in
    let now = c.delete_group.new.groups in
    let i = c.loop-id.id-index in
    let t = c.id-item.result in
    let start : World × Groups = (a.state.world, c.args.groups.now) in
    let p : World × Groups = (b.state.world, old) in
    let q : World × Groups = (d.state.world, now) in
    let sent = to_z-of_z w16 c.delete_group.result (record { sfits = c.delete_group.type_inv }) in
    let reply : DeletedGroup = record { group_id = c.new.result; error_code = to_z w16 (of_z w16 c.delete_group.result) } in
    let first = c.loop-id.invariant.step in
    let second = c.delete_group.ensures.step in
    let is : WhereHonest a d (AreGroupDeletionsCut (CatalogFailed a d) start c.args.request.now q) = λ honest agree.
    let both = honest_then a b d _ _ first second c.loop-id.invariant.answers
    (deletion_told_so b d old now t c.as_str-id.result.now c.new.result c.delete_group.result reply.error_code second c.as_str-id.ensures c.new.ensures sent c.delete_group.ensures.told) honest agree in
    let before = both.0 in
    subst (λ (xs : List (List ℕ)). AreFirstServed (IsGroupDeletionTold (CatalogFailed a d)) start xs q) c.as_slice-ids.ensures (
      i + 1,
      (
        before.0 ++ reply ∷ [],
        served_next (IsGroupDeletionTold (CatalogFailed a d)) start p q ids i t before.0 reply c.loop-id-test.true c.id-item.is
            (deletions_before a b d second (take i ids) start p before.0 before.1.1)
            (deletion_behind a b d first p t q reply both.1),
      ),
    ) in
    on_err _ is
