use Rattle.std.proofs.Common.{rules, ◌≡◌, ◌∙◌, ◌++◌, sym, ap, refl, subst, Ok, to_z, of_z, w16, w32}
use Rattle.kb_api_group.specs.Layouts.{offset_commit_reply}
use Rattle.kb_tenant.specs.Entries.{commit_entries, within}
use Rattle.kb_tenant.specs.OffsetCommit.{asked_commit, committed_all}
use Rattle.kb_tenant.specs.Replies.{begun}
use Rattle.kb_tenant.specs.Told.{AreCommitsCut, CatalogFailed, IsCommitTopicCut, IsCommitTopicTold, IsRepliedOrCut, IsShutUnchanged}
use Rattle.kb_tenant.specs.Turns.{AreServed}
use Rattle.kb_tenant.specs.declared.answer.Answer.TheVariants as plain
use Rattle.std.specs.Prelude.{OnErr}
use Rattle.kb_store.proofs.Seen.{on_err}
use Rattle.kb_tenant_state.specs.Parts.{scene, world_of}
use Rattle.kb_tenant_state.specs.Scene.{WhereHonest}
use Rattle.kb_tenant_api.specs.Acknowledged.{AcknowledgesCommits, TellsCommits}
use Rattle.kb_tenant_api.specs.Serve.{commit_refusal, of_offset_commit}
use Rattle.kb_tenant_api.specs.declared.answer.Answer.TheVariants as answers
use Rattle.kb_tenant.proofs.Cutting.{into_all, replied_or_cut}
use Rattle.kb_tenant_api.proofs.Committing.{commits, commits_untouched}
use Rattle.kb_tenant_api.proofs.Joining.{was_read}
use Rattle.kb_tenant_api.proofs.commits.commit_offsets.Goals as goal

pub returns-clause-meets : goal.returns-clause-meets
returns-clause-meets g c = λ honest agree calm.
    let w = world_of g.L.PartitionLog.log c.args.parts.now (g.S.Store.disk c.args.shelf.now.store).files in
    let after = world_of g.L.PartitionLog.log c.offset_commit.new.parts (g.S.Store.disk c.offset_commit.new.shelf.store).files in
    let request = c.args.request.now in
    let asked = c.in_ok-asked.asked in
    let gs = c.args.groups.now in
    let refusal = c.refusal-refusal.result in
    let body = offset_commit_reply.written (committed_all c.args.limits w refusal asked).1 in
    let met = c.in_ok-offset_commit.ensures.meets honest agree calm in
    let id : to_z w32 (of_z w32 request.correlation_id) ≡ request.correlation_id = search rules in
    let same : to_z w16 (of_z w16 request.api_version) ≡ request.api_version = search rules in
    was_read request.correlation_id w after gs c.refusal-refusal.new.groups (within c.args.limits.request_entries commit_entries (asked_commit request.api_version request.body.now)) asked (of_offset_commit c.args.limits w c.args.clock gs) (answers.Plain c.finish.result) (ap (λ x. within c.args.limits.request_entries commit_entries (asked_commit x request.body.now)) (sym same) ∙ c.in_ok-asked.ensures.exact)
    (commits c.args.limits request.correlation_id w after c.args.clock gs c.silence.new.self c.refusal-refusal.new.groups asked refusal (answers.Plain c.finish.result) c.silence.ensures c.refusal-refusal.ensures.refusal c.refusal-refusal.ensures.after met.0
    (c.finish.ensures request.correlation_id body (met.1 ∙ ap (λ s. s ++ body) (c.in_ok-sink.ensures ∙ ap begun id))))

pub returns-clause-acknowledged : goal.returns-clause-acknowledged
returns-clause-acknowledged g c = λ honest agree.
    let log = g.L.PartitionLog.log in
    let disk = g.S.Store.disk in
    let w = world_of log c.args.parts.now (disk c.args.shelf.now.store).files in
    let v = world_of log c.offset_commit.new.parts (disk c.offset_commit.new.shelf.store).files in
    let failed = CatalogFailed (scene log disk c.args.parts.now c.args.shelf.now) (scene log disk c.offset_commit.new.parts c.offset_commit.new.shelf) in
    let request = c.args.request.now in
    let limits = c.args.limits in
    let gs = c.args.groups.now in
    let asked = c.in_ok-asked.asked in
    let id : to_z w32 (of_z w32 request.correlation_id) ≡ request.correlation_id = search rules in
    let same : to_z w16 (of_z w16 request.api_version) ≡ request.api_version = search rules in
    let whole_read : within limits.request_entries commit_entries (asked_commit request.api_version request.body.now) ≡ Ok asked =
    ap (λ x. within limits.request_entries commit_entries (asked_commit x request.body.now)) (sym same) ∙ c.in_ok-asked.ensures.exact in
    let told = c.in_ok-offset_commit.ensures.told honest agree in
    let refused = commit_refusal gs asked in
    let refusal : c.refusal-refusal.result ≡ refused = c.refusal-refusal.ensures.refusal ∙ ap (λ x. commit_refusal x asked) c.silence.ensures in
    let all = subst (λ r. AreServed (IsCommitTopicTold failed limits r asked.group_id) w asked.topics v told.0.topics) refusal told.1.1 in
    let cut : AreCommitsCut failed limits refused w asked v =
    into_all (IsCommitTopicTold failed limits refused asked.group_id) (IsCommitTopicCut failed limits refused asked.group_id) w v asked.topics
    told.0.topics all in (
      λ q read.
          let both : Ok asked ≡ Ok q = sym (ap (λ x. asked_commit x request.body.now) (sym same) ∙ c.in_ok-asked.ensures.spelled) ∙ read in
          let one : asked ≡ q = cc in
          subst (λ x. IsRepliedOrCut request.correlation_id (TellsCommits failed limits gs w x v)
          (AreCommitsCut failed limits (commit_refusal gs x) w x v) c.finish.result) one
          (replied_or_cut request.correlation_id (TellsCommits failed limits gs w asked v) (AreCommitsCut failed limits refused w asked v)
          c.in_ok-sink.sink.bytes c.offset_commit.new.sink.bytes (offset_commit_reply.written told.0) c.finish.result
          (c.in_ok-sink.ensures ∙ ap begun id) told.1.0 (told.0, (refl, all)) cut c.finish.ensures),
      subst (λ r. OnErr r (IsShutUnchanged w v c.finish.result)) (sym whole_read) tt,
    )

pub returns-in_err-asked-clause-cut : goal.returns-in_err-asked-clause-cut
returns-in_err-asked-clause-cut g c =
    let a = scene g.L.PartitionLog.log g.S.Store.disk c.args.parts.now c.args.shelf.now in
    let request = c.args.request.now in
    on_err _ (commits_untouched a c.args.limits request.correlation_id request.api_version request.body.now c.args.groups.now)

pub returns-in_err-sink-clause-cut : goal.returns-in_err-sink-clause-cut
returns-in_err-sink-clause-cut g c =
    let a = scene g.L.PartitionLog.log g.S.Store.disk c.args.parts.now c.args.shelf.now in
    let request = c.args.request.now in
    on_err _ (commits_untouched a c.args.limits request.correlation_id request.api_version request.body.now c.args.groups.now)

pub returns-in_err-offset_commit-clause-cut : goal.returns-in_err-offset_commit-clause-cut
returns-in_err-offset_commit-clause-cut g c =
    let log = g.L.PartitionLog.log in
    let disk = g.S.Store.disk in
    let a = scene log disk c.args.parts.now c.args.shelf.now in
    let b = scene log disk c.offset_commit.new.parts c.offset_commit.new.shelf in
    let request = c.args.request.now in
    let version = request.api_version in
    let limits = c.args.limits in
    let gs = c.args.groups.now in
    let asked = c.in_ok-asked.asked in
    let same : to_z w16 (of_z w16 version) ≡ version = search rules in
    let whole_read : within limits.request_entries commit_entries (asked_commit version request.body.now) ≡ Ok asked =
    ap (λ x. within limits.request_entries commit_entries (asked_commit x request.body.now)) (sym same) ∙ c.in_ok-asked.ensures.exact in
    let refusal : c.refusal-refusal.result ≡ commit_refusal gs asked = c.refusal-refusal.ensures.refusal ∙ ap (λ x. commit_refusal x asked) c.silence.ensures in
    let is : WhereHonest a b (AcknowledgesCommits (CatalogFailed a b) limits request.correlation_id version gs a.state.world request.body.now
    b.state.world (answers.Plain plain.Shut)) = λ honest agree. (
      λ q read.
          let both : Ok asked ≡ Ok q = sym (ap (λ x. asked_commit x request.body.now) (sym same) ∙ c.in_ok-asked.ensures.spelled) ∙ read in
          let one : asked ≡ q = cc in
          subst (λ x. AreCommitsCut (CatalogFailed a b) limits (commit_refusal gs x) a.state.world x b.state.world) one
          (subst (λ r. AreCommitsCut (CatalogFailed a b) limits r a.state.world asked b.state.world) refusal
          (c.in_err-offset_commit.ensures.cut honest agree)),
      subst (λ r. OnErr r (IsShutUnchanged a.state.world b.state.world plain.Shut)) (sym whole_read) tt,
    ) in
    on_err _ is
