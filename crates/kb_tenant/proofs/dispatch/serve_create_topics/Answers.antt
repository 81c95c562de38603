use Rattle.std.proofs.Common.{rules, ℕ, Option, ◌≡◌, ◌∙◌, ◌++◌, [], false, refl, true, Ok, sym, ap, subst, to_z, of_z}
use Rattle.std.specs.Int.{w16, w32}
use Rattle.std.specs.Prelude.{OnErr}
use Rattle.kb_api_data.specs.declared.create_topics.CreateTopicsReply.{CreateTopicsReply}
use Rattle.kb_store.proofs.Seen.{on_err}
use Rattle.kb_tenant.specs.CreateTopics.{asked_creations, checked_all, created_all, creations_in, made_of}
use Rattle.kb_tenant.specs.Entries.{create_topics_entries, within}
use Rattle.kb_tenant.specs.Replies.{begun}
use Rattle.kb_tenant.specs.Serve.{if_read, of_create_topics, IsServed}
use Rattle.kb_tenant.specs.Told.{AcknowledgesCreations, AreCreationsCut, AreCreationsTold, CreationFailed, IsCreationTold, IsShutUnchanged, TellsCreations}
use Rattle.kb_tenant.specs.declared.answer.Answer.TheVariants as answers
use Rattle.kb_tenant_state.specs.Scene.{WhereHonest}
use Rattle.kb_tenant_state.specs.Parts.{scene, world_of}
use Rattle.kb_tenant_state.specs.Steps.{step_same}
use Rattle.kb_tenant.proofs.Cutting.{creations_untouched, first_all, replied_or_cut}
use Rattle.kb_tenant.proofs.Keys.{checked_outcome, made_outcome}
use Rattle.kb_tenant.proofs.dispatch.serve_create_topics.Goals as goal

pub returns-then-asked-clause-step : goal.returns-then-asked-clause-step
returns-then-asked-clause-step g c = step_same (scene g.L.PartitionLog.log g.S.Store.disk c.args.parts.now c.args.shelf.now) c.requires

pub returns-then-asked-clause-meets : goal.returns-then-asked-clause-meets
returns-then-asked-clause-meets g c = λ honest agree calm.
    let files = (g.S.Store.disk c.args.shelf.now.store).files in
    let w = world_of g.L.PartitionLog.log c.args.parts.now files in
    let request = c.args.request.now in
    let version = request.api_version in
    let asked = c.in_ok-asked.asked in
    let reply = checked_all c.args.limits w asked.topics in
    let body = creations_in version reply in
    let id : to_z w32 (of_z w32 request.correlation_id) ≡ request.correlation_id = search rules in
    let same : to_z w16 (of_z w16 version) ≡ version = search rules in
    let limit : Option ℕ = c.args.limits.request_entries in
    let read : within limit create_topics_entries (asked_creations version request.body.now) ≡ Ok asked = ap (λ v. within limit create_topics_entries (asked_creations v request.body.now)) (sym same) ∙ c.in_ok-asked.ensures.exact in
    subst (λ r. IsServed request.correlation_id (if_read w r (of_create_topics c.args.limits version w)) w [] (Ok c.finish.result)) (sym read)
    (checked_outcome c.args.limits request.correlation_id version w asked c.finish.result c.if-asked.true
    (c.finish.ensures request.correlation_id body
    (c.in_ok-check_topics.ensures.written files ∙ ap (λ v. c.in_ok-sink.sink.bytes ++ creations_in v reply) same ∙ ap (λ s. s ++ body) (c.in_ok-sink.ensures ∙ ap begun id))))

pub returns-clause-meets : goal.returns-clause-meets
returns-clause-meets g c = λ honest agree calm.
    let w = world_of g.L.PartitionLog.log c.args.parts.now (g.S.Store.disk c.args.shelf.now.store).files in
    let v = world_of g.L.PartitionLog.log c.create_topics.new.parts (g.S.Store.disk c.create_topics.new.shelf.store).files in
    let request = c.args.request.now in
    let version = request.api_version in
    let asked = c.in_ok-asked.asked in
    let reply = (created_all c.args.limits w (made_of asked)).1 in
    let body = creations_in version reply in
    let id : to_z w32 (of_z w32 request.correlation_id) ≡ request.correlation_id = search rules in
    let same : to_z w16 (of_z w16 version) ≡ version = search rules in
    let limit : Option ℕ = c.args.limits.request_entries in
    let read : within limit create_topics_entries (asked_creations version request.body.now) ≡ Ok asked = ap (λ x. within limit create_topics_entries (asked_creations x request.body.now)) (sym same) ∙ c.in_ok-asked.ensures.exact in
    let met = c.in_ok-create_topics.ensures.meets honest agree calm in
    subst (λ r. IsServed request.correlation_id (if_read w r (of_create_topics c.args.limits version w)) v [] (Ok c.finish-2.result)) (sym read)
    (made_outcome c.args.limits request.correlation_id version w v asked c.finish-2.result c.if-asked.false met.0
    (c.finish-2.ensures request.correlation_id body
    (met.1 ∙ ap (λ x. c.in_ok-sink.sink.bytes ++ creations_in x reply) same ∙ ap (λ s. s ++ body) (c.in_ok-sink.ensures ∙ ap begun id))))

pub returns-then-asked-clause-acknowledged : goal.returns-then-asked-clause-acknowledged
returns-then-asked-clause-acknowledged g c = λ honest agree.
    let w = world_of g.L.PartitionLog.log c.args.parts.now (g.S.Store.disk c.args.shelf.now.store).files in
    let request = c.args.request.now in
    let version = request.api_version in
    let asked = c.in_ok-asked.asked in
    let same : to_z w16 (of_z w16 version) ≡ version = search rules in
    let limit : Option ℕ = c.args.limits.request_entries in
    let whole_read : within limit create_topics_entries (asked_creations version request.body.now) ≡ Ok asked = ap (λ v. within limit create_topics_entries (asked_creations v request.body.now)) (sym same) ∙ c.in_ok-asked.ensures.exact in
    let clash : true ≡ false → ⊥ = λ bad. cc in (
      λ q read.
          let both : Ok asked ≡ Ok q = sym (ap (λ x. asked_creations x request.body.now) (sym same) ∙ c.in_ok-asked.ensures.spelled) ∙ read in
          let one : asked ≡ q = cc in
          let only : asked.validate_only ≡ true = c.if-asked.true in
          ((λ made. absurd (clash (sym only ∙ ap (λ x. x.validate_only) one ∙ made))), (λ checked. refl)),
      subst (λ r. OnErr r (IsShutUnchanged w w c.finish.result)) (sym whole_read) tt,
    )

pub returns-clause-acknowledged : goal.returns-clause-acknowledged
returns-clause-acknowledged g c = λ honest agree.
    let log = g.L.PartitionLog.log in
    let disk = g.S.Store.disk in
    let w = world_of log c.args.parts.now (disk c.args.shelf.now.store).files in
    let v = world_of log c.create_topics.new.parts (disk c.create_topics.new.shelf.store).files in
    let failed = CreationFailed (scene log disk c.args.parts.now c.args.shelf.now) (scene log disk c.create_topics.new.parts c.create_topics.new.shelf) in
    let request = c.args.request.now in
    let version = request.api_version in
    let limits = c.args.limits in
    let asked = c.in_ok-asked.asked in
    let out = c.in_ok-sink.sink.bytes in
    let id : to_z w32 (of_z w32 request.correlation_id) ≡ request.correlation_id = search rules in
    let same : to_z w16 (of_z w16 version) ≡ version = search rules in
    let limit : Option ℕ = limits.request_entries in
    let whole_read : within limit create_topics_entries (asked_creations version request.body.now) ≡ Ok asked = ap (λ x. within limit create_topics_entries (asked_creations x request.body.now)) (sym same) ∙ c.in_ok-asked.ensures.exact in
    let told = c.in_ok-create_topics.ensures.told honest agree in
    let reply : CreateTopicsReply = record { topics = told.0 } in
    let clash : true ≡ false → ⊥ = λ bad. cc in
    let cut : AreCreationsCut failed limits w asked v = first_all (IsCreationTold failed limits asked.topics) w v asked.topics told.0 told.1.1 in (
      λ q read.
          let both : Ok asked ≡ Ok q = sym (ap (λ x. asked_creations x request.body.now) (sym same) ∙ c.in_ok-asked.ensures.spelled) ∙ read in
          let one : asked ≡ q = cc in
          subst (λ x. AreCreationsTold failed limits request.correlation_id version w x v c.finish-2.result) one (
            (λ made. replied_or_cut request.correlation_id (TellsCreations failed limits version w asked v) (AreCreationsCut failed limits w asked v)
                out c.create_topics.new.sink.bytes (creations_in version reply) c.finish-2.result
                (c.in_ok-sink.ensures ∙ ap begun id) (told.1.0 ∙ ap (λ x. out ++ creations_in x reply) same) (told.0, (refl, told.1.1)) cut
                c.finish-2.ensures),
            (λ checked. absurd (clash (sym checked ∙ c.if-asked.false))),
          ),
      subst (λ r. OnErr r (IsShutUnchanged w v c.finish-2.result)) (sym whole_read) tt,
    )

pub returns-in_err-asked-clause-cut : goal.returns-in_err-asked-clause-cut
returns-in_err-asked-clause-cut g c =
    let a = scene g.L.PartitionLog.log g.S.Store.disk c.args.parts.now c.args.shelf.now in
    let request = c.args.request.now in
    on_err _ (creations_untouched a c.args.limits request.correlation_id request.api_version request.body.now)

pub returns-in_err-sink-clause-cut : goal.returns-in_err-sink-clause-cut
returns-in_err-sink-clause-cut g c =
    let a = scene g.L.PartitionLog.log g.S.Store.disk c.args.parts.now c.args.shelf.now in
    let request = c.args.request.now in
    on_err _ (creations_untouched a c.args.limits request.correlation_id request.api_version request.body.now)

pub returns-in_err-check_topics-clause-cut : goal.returns-in_err-check_topics-clause-cut
returns-in_err-check_topics-clause-cut g c =
    let a = scene g.L.PartitionLog.log g.S.Store.disk c.args.parts.now c.args.shelf.now in
    let request = c.args.request.now in
    on_err _ (creations_untouched a c.args.limits request.correlation_id request.api_version request.body.now)

pub returns-in_err-create_topics-clause-cut : goal.returns-in_err-create_topics-clause-cut
returns-in_err-create_topics-clause-cut g c =
    let log = g.L.PartitionLog.log in
    let disk = g.S.Store.disk in
    let a = scene log disk c.args.parts.now c.args.shelf.now in
    let b = scene log disk c.create_topics.new.parts c.create_topics.new.shelf in
    let request = c.args.request.now in
    let version = request.api_version in
    let limits = c.args.limits in
    let asked = c.in_ok-asked.asked in
    let same : to_z w16 (of_z w16 version) ≡ version = search rules in
    let limit : Option ℕ = limits.request_entries in
    let whole_read : within limit create_topics_entries (asked_creations version request.body.now) ≡ Ok asked = ap (λ x. within limit create_topics_entries (asked_creations x request.body.now)) (sym same) ∙ c.in_ok-asked.ensures.exact in
    let clash : true ≡ false → ⊥ = λ bad. cc in
    let is : WhereHonest a b (AcknowledgesCreations (CreationFailed a b) limits request.correlation_id version a.state.world request.body.now
    b.state.world answers.Shut) = λ honest agree. (
      λ q read.
          let both : Ok asked ≡ Ok q = sym (ap (λ x. asked_creations x request.body.now) (sym same) ∙ c.in_ok-asked.ensures.spelled) ∙ read in
          let one : asked ≡ q = cc in
          subst (λ x. AreCreationsTold (CreationFailed a b) limits request.correlation_id version a.state.world x b.state.world answers.Shut) one
          ((λ made. c.in_err-create_topics.ensures.cut honest agree), (λ checked. absurd (clash (sym checked ∙ c.if-asked.false)))),
      subst (λ r. OnErr r (IsShutUnchanged a.state.world b.state.world answers.Shut)) (sym whole_read) tt,
    ) in
    on_err _ is
