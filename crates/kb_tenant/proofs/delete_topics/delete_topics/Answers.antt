use Rattle.std.proofs.Common.{◌≡◌, ◌∙◌, ◌++◌, ◌+◌, [], ◌∷◌, append-nil, length, of_z, sym, ap, refl, subst, take, to_z, w16, w32, ℕ, List}
use Rattle.std.specs.List.{flat_map}
use Rattle.std.proofs.lemmas.Int.{to_z-of_z}
use Rattle.std.proofs.Math.Seq.{take-length}
use Rattle.kb_wire.specs.Codec.{count, string, array}
use Rattle.kb_api_data.specs.Layouts.{delete_topic_reply}
use Rattle.kb_api_data.specs.declared.delete_topics.DeleteTopicReply.{DeleteTopicReply}
use Rattle.kb_tenant_state.specs.Scene.{Scene, WhereHonest}
use Rattle.kb_tenant.specs.DeleteTopics.{deleted_topic, deletions_in, throttle_in}
use Rattle.kb_store.proofs.Seen.{on_err}
use Rattle.kb_tenant_state.specs.Parts.{Seen, scene}
use Rattle.kb_tenant_state.specs.Steps.{step_same, step_then, meets_then, meets_so}
use Rattle.kb_tenant.specs.Told.{AreRemovalsCut, CatalogFailed, IsRemovalTold}
use Rattle.kb_tenant.specs.Turns.{in_turn, AreFirstServed, AreServed}
use Rattle.kb_tenant_state.specs.World.{World}
use Rattle.kb_tenant_state.specs.declared.topic_partition.TopicPartition.{TopicPartition}
use Rattle.kb_tenant.proofs.Acknowledging.{honest_then, served_all, served_length, served_next, written_more}
use Rattle.kb_tenant.proofs.Deleting.{answered_is, deleted_fits, name_short, names_fit, deletions_written, kept_more}
use Rattle.kb_tenant.proofs.Fitting.{array_written, written_both}
use Rattle.kb_tenant.proofs.Replies.{entry_next, entries_over, count_fits, item_fits}
use Rattle.kb_tenant.proofs.Wanted.{removal_behind, removal_told_so, removals_before}
use Rattle.kb_tenant.proofs.delete_topics.delete_topics.Goals as goal

pub put_count-requires : goal.put_count-requires
put_count-requires g c =
    let fits = subst (array string).Fits (sym c.as_slice-names.ensures) (names_fit c.args.request.now c.requires.fits) in
    count_fits string c.as_slice-names.result.now fits

pub delete_topic-requires-clause-text : goal.delete_topic-requires-clause-text
delete_topic-requires-clause-text g c =
    let fits = subst (array string).Fits (sym c.as_slice-names.ensures) (names_fit c.args.request.now c.requires.fits) in
    let t = c.name-item.result in
    name_short t _ c.as_str-name.ensures (item_fits string c.as_slice-names.result.now c.loop-name.name-index t c.loop-name-test.true c.name-item.is fits)

pub write-requires : goal.write-requires
write-requires g c =
    let fits = subst (array string).Fits (sym c.as_slice-names.ensures) (names_fit c.args.request.now c.requires.fits) in
    let t = c.name-item.result in
    λ k. ((refl, tt), deleted_fits t _ _ (c.new.ensures ∙ c.as_str-name.ensures) (item_fits string c.as_slice-names.result.now c.loop-name.name-index t c.loop-name-test.true c.name-item.is fits))

pub returns-in_err-write-clause-step : goal.returns-in_err-write-clause-step
returns-in_err-write-clause-step g c =
    let log = g.L.PartitionLog.log in
    let disk = g.S.Store.disk in
    let a : Scene Seen = scene log disk c.args.parts.now c.args.shelf.now in
    let b : Scene Seen = scene log disk c.loop-name.parts c.loop-name.shelf in
    let d : Scene Seen = scene log disk c.delete_topic.new.parts c.delete_topic.new.shelf in
    step_then a b d c.loop-name.invariant.step c.delete_topic.ensures.step

pub returns-in_err-write-clause-unchanged : goal.returns-in_err-write-clause-unchanged
returns-in_err-write-clause-unchanged g c =
    kept_more c.args.touched.now.items c.loop-name.touched.items c.delete_topic.new.touched.items _ (c.delete_topic.ensures.told (g.S.Store.disk c.loop-name.shelf.store).files) c.loop-name.invariant.unchanged

pub loop-name-init : goal.loop-name-init
loop-name-init g c = record {
  step = step_same (scene g.L.PartitionLog.log g.S.Store.disk c.args.parts.now c.args.shelf.now) c.requires.sound;
  unchanged = take-length c.args.touched.now.items;
  told = λ honest agrees calm. refl;
  answers = λ honest agree. ([], (sym (append-nil c.put_count.new.self.bytes), refl));
}

pub loop-name-preserved : goal.loop-name-preserved
loop-name-preserved g c =
    let log = g.L.PartitionLog.log in
    let disk = g.S.Store.disk in
    let a : Scene Seen = scene log disk c.args.parts.now c.args.shelf.now in
    let b : Scene Seen = scene log disk c.loop-name.parts c.loop-name.shelf in
    let d : Scene Seen = scene log disk c.delete_topic.new.parts c.delete_topic.new.shelf in
    let names = c.as_slice-names.result.now in
    let old = c.loop-name.touched.items in
    let now = c.delete_topic.new.touched.items in
    let i = c.loop-name.name-index in
    let t = c.name-item.result in
    let sent = to_z-of_z w16 c.delete_topic.result (record { sfits = c.delete_topic.type_inv }) in
    record {
      step = step_then a b d c.loop-name.invariant.step c.delete_topic.ensures.step;
      unchanged = kept_more c.args.touched.now.items old now _ (c.delete_topic.ensures.told (disk c.loop-name.shelf.store).files) c.loop-name.invariant.unchanged;
      told = meets_so a d _ _ (λ both. entry_next delete_topic_reply deleted_topic c.loop-name.sink.bytes c.write.new.sink.bytes (b.state.world, old) (d.state.world, now) _ names i t _ c.loop-name-test.true c.name-item.is c.in_ok-write.ensures.ok
          (answered_is b.state.world d.state.world old now t c.as_str-name.result.now c.new.result c.delete_topic.result _ c.as_str-name.ensures c.new.ensures both.1 sent) both.0)
          (meets_then a b d _ _ c.loop-name.invariant.step c.delete_topic.ensures.step c.loop-name.invariant.told c.delete_topic.ensures.meets);
      answers = λ honest agree.
          let reply : DeleteTopicReply = record { name = c.new.result; error_code = to_z w16 (of_z w16 c.delete_topic.result) } in
          let first = c.loop-name.invariant.step in
          let second = c.delete_topic.ensures.step in
          let both = honest_then a b d _ _ first second c.loop-name.invariant.answers
          (removal_told_so b d old now t c.as_str-name.result.now c.new.result c.delete_topic.result reply.error_code second c.as_str-name.ensures c.new.ensures sent c.delete_topic.ensures.answered) honest agree in
          let before = both.0 in (
            before.0 ++ reply ∷ [],
            (
              written_more delete_topic_reply.written c.put_count.new.self.bytes c.loop-name.sink.bytes c.write.new.sink.bytes before.0 reply before.1.0 c.in_ok-write.ensures.ok,
              served_next (IsRemovalTold (CatalogFailed a d)) (a.state.world, c.args.touched.now.items) (b.state.world, old) (d.state.world, now) names i t before.0 reply c.loop-name-test.true c.name-item.is
                  (removals_before a b d second (take i names) (a.state.world, c.args.touched.now.items) (b.state.world, old) before.0 before.1.1)
                  (removal_behind a b d first (b.state.world, old) t (d.state.world, now) reply both.1),
            ),
          );
    }

pub returns-clause-meets : goal.returns-clause-meets
returns-clause-meets g c = λ honest agrees calm.
    let log = g.L.PartitionLog.log in
    let disk = g.S.Store.disk in
    let a : Scene Seen = scene log disk c.args.parts.now c.args.shelf.now in
    let b : Scene Seen = scene log disk c.loop-name.parts c.loop-name.shelf in
    let names = c.as_slice-names.result.now in
    let start = c.args.sink.now.bytes in
    let head = c.put_throttle.new.sink.bytes in
    let end = c.loop-name.sink.bytes in
    let s : World × List TopicPartition = (a.state.world, c.args.touched.now.items) in
    let t : World × List TopicPartition = (b.state.world, c.loop-name.touched.items) in
    let over = entries_over delete_topic_reply deleted_topic head c.put_count.new.self.bytes end s t names c.loop-name.name-index c.loop-name-test.false c.in_ok-put_count.ensures.ok (c.loop-name.invariant.told honest agrees calm) in
    let world : t.0 ≡ (in_turn deleted_topic s names).0.0 = ap (λ (x : World × List TopicPartition). x.0) over.0 in
    let touched : t.1 ≡ (in_turn deleted_topic s names).0.1 = ap (λ (x : World × List TopicPartition). x.1) over.0 in
    let before : head ≡ start ++ throttle_in c.args.version = c.in_ok-put_throttle.ensures ∙ ap (λ v. start ++ throttle_in v) (to_z-of_z w16 c.args.version c.ranges.version) in
    let bytes : end ≡ start ++ deletions_in c.args.version (record { topics = (in_turn deleted_topic s names).1 }) = deletions_written c.args.version start head end (in_turn deleted_topic s names).1 before over.1 in
    subst (λ (xs : List (List ℕ)). let r = in_turn deleted_topic s xs in (t.0 ≡ r.0.0) × (t.1 ≡ r.0.1) × (end ≡ start ++ deletions_in c.args.version (record { topics = r.1 }))) c.as_slice-names.ensures (world, touched, bytes)

pub returns-clause-told : goal.returns-clause-told
returns-clause-told g c = λ honest agree.
    let log = g.L.PartitionLog.log in
    let disk = g.S.Store.disk in
    let a : Scene Seen = scene log disk c.args.parts.now c.args.shelf.now in
    let b : Scene Seen = scene log disk c.loop-name.parts c.loop-name.shelf in
    let names = c.as_slice-names.result.now in
    let start = c.args.sink.now.bytes in
    let head = c.put_throttle.new.sink.bytes in
    let end = c.loop-name.sink.bytes in
    let s : World × List TopicPartition = (a.state.world, c.args.touched.now.items) in
    let t : World × List TopicPartition = (b.state.world, c.loop-name.touched.items) in
    let so = c.loop-name.invariant.answers honest agree in
    let all = served_all (IsRemovalTold (CatalogFailed a b)) s t names c.loop-name.name-index so.0 c.loop-name-test.false so.1.1 in
    let many = sym (served_length (IsRemovalTold (CatalogFailed a b)) s t names so.0 all) in
    let before : head ≡ start ++ throttle_in c.args.version = c.in_ok-put_throttle.ensures ∙ ap (λ v. start ++ throttle_in v) (to_z-of_z w16 c.args.version c.ranges.version) in
    let bytes = deletions_written c.args.version start head end so.0 before (written_both head c.put_count.new.self.bytes end ((count w32).written (length names)) (flat_map delete_topic_reply.written so.0) c.in_ok-put_count.ensures.ok so.1.0
    ∙ ap (λ x. head ++ x) (array_written delete_topic_reply so.0 (length names) many)) in
    subst (λ (xs : List (List ℕ)). (replies : List DeleteTopicReply) × ((end ≡ start ++ deletions_in c.args.version (record { topics = replies })) × AreServed (IsRemovalTold (CatalogFailed a b)) s xs t replies)) c.as_slice-names.ensures (so.0, (bytes, all))

pub returns-in_err-write-clause-cut : goal.returns-in_err-write-clause-cut
returns-in_err-write-clause-cut g c =
    let log = g.L.PartitionLog.log in
    let disk = g.S.Store.disk in
    let a : Scene Seen = scene log disk c.args.parts.now c.args.shelf.now in
    let b : Scene Seen = scene log disk c.loop-name.parts c.loop-name.shelf in
    let d : Scene Seen = scene log disk c.delete_topic.new.parts c.delete_topic.new.shelf in
    let names = c.as_slice-names.result.now in
    let i = c.loop-name.name-index in
    let t = c.name-item.result in
    let start : World × List TopicPartition = (a.state.world, c.args.touched.now.items) in
    let p : World × List TopicPartition = (b.state.world, c.loop-name.touched.items) in
    let q : World × List TopicPartition = (d.state.world, c.delete_topic.new.touched.items) in
    let sent = to_z-of_z w16 c.delete_topic.result (record { sfits = c.delete_topic.type_inv }) in
    let reply : DeleteTopicReply = record { name = c.new.result; error_code = to_z w16 (of_z w16 c.delete_topic.result) } in
    let first = c.loop-name.invariant.step in
    let second = c.delete_topic.ensures.step in
    let is : WhereHonest a d (AreRemovalsCut (CatalogFailed a d) start c.args.request.now q) = λ honest agree.
    let both = honest_then a b d _ _ first second c.loop-name.invariant.answers
    (removal_told_so b d c.loop-name.touched.items c.delete_topic.new.touched.items t c.as_str-name.result.now c.new.result
    c.delete_topic.result reply.error_code second c.as_str-name.ensures c.new.ensures sent c.delete_topic.ensures.answered)
    honest agree in
    let before = both.0 in
    subst (λ (xs : List (List ℕ)). AreFirstServed (IsRemovalTold (CatalogFailed a d)) start xs q) c.as_slice-names.ensures (
      i + 1,
      (
        before.0 ++ reply ∷ [],
        served_next (IsRemovalTold (CatalogFailed a d)) start p q names i t before.0 reply c.loop-name-test.true c.name-item.is
            (removals_before a b d second (take i names) start p before.0 before.1.1)
            (removal_behind a b d first p t q reply both.1),
      ),
    ) in
    on_err _ is
